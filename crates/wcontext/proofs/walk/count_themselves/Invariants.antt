use Rattle.std.proofs.Common.{◌≡◌, ℕ, ◌<◌}
use Rattle.wcontext.specs.Nodes.{below_at}
use Rattle.wcontext.specs.Walk.{HaveLinksOf}
use Rattle.wcontext.proofs.walk.count_themselves.Given as goal

abbrev pub invariant-loop-i : goal.invariant-loop-i
invariant-loop-i l = record { links : HaveLinksOf l.fn.nodes l.nodes; ones : (q : ℕ) → q < l.i → below_at l.nodes q ≡ 1 }
