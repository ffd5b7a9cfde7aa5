-- The lines so far end there.
use Rattle.batch.proofs.FrontLines.{EndsSoFar}
use Rattle.batch.proofs.front.end_of_lines.Given as goal

abbrev pub invariant-loop : goal.invariant-loop
invariant-loop l = EndsSoFar l.counter l.text l.end
