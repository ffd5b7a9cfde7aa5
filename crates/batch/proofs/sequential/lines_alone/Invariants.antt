-- The lines so far.
use Rattle.std.proofs.Common.{take}
use Rattle.batch.specs.Groups.{GiveLines}
use Rattle.batch.proofs.sequential.lines_alone.Given as goal

abbrev pub invariant-loop-call : goal.invariant-loop-call
invariant-loop-call l = GiveLines l.accepted l.settings (take l.call-index l.calls) l.lines.items
