use Rattle.std.proofs.Common.{subst}
use Rattle.std.proofs.lemmas.List.{take_all}
use Rattle.wsyntax.specs.declared.value.Value.TheVariants.{I32}
use Rattle.wsyntax.specs.Execution.Values.{AreWords}
use Rattle.wmachine.proofs.Words.{words_more}
use Rattle.wmachine.proofs.arguments.are_words.Goals as goal

pub loop-value-preserved : goal.loop-value-preserved
loop-value-preserved c = words_more c.args.values.now c.loop-value.value-index (I32 0) c.loop-value-test.true c.loop-value.invariant c.is_word.ensures

pub returns : goal.returns
returns c = subst AreWords (take_all c.loop-value.value-index c.args.values.now c.loop-value-test.false) c.loop-value.invariant
