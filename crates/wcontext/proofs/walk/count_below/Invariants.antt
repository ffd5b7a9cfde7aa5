use Rattle.std.proofs.Common.{◌≤◌, length}
use Rattle.wcontext.specs.Walk.{HaveLinksOf, IsCountedFrom}
use Rattle.wcontext.proofs.walk.count_below.Given as goal

abbrev pub invariant-loop-i : goal.invariant-loop-i
invariant-loop-i l = record { within : l.i ≤ length l.nodes; links : HaveLinksOf l.fn.nodes l.nodes; counted : IsCountedFrom l.nodes l.i }

abbrev pub decreases-loop-i : goal.decreases-loop-i
decreases-loop-i l = l.i
