-- Lines are read so far.
use Rattle.std.proofs.Common.{length}
use Rattle.batch_text.specs.Calls.{calls_of}
use Rattle.batch_text.proofs.CallLines.{LinesRead}
use Rattle.batch_text.proofs.calls.read_calls.Given as goal

abbrev pub invariant-lines : goal.invariant-lines
invariant-lines l = LinesRead l.text l.rest (calls_of l.calls.items)

abbrev pub decreases-lines : goal.decreases-lines
decreases-lines l = length l.rest
