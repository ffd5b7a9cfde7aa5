use Rattle.std.proofs.Common.{take}
use Rattle.wsyntax.specs.Execution.Values.{AreWords}
use Rattle.wmachine.proofs.arguments.are_words.Given as goal

abbrev pub invariant-loop-value : goal.invariant-loop-value
invariant-loop-value l = AreWords (take l.value-index l.values)
