use Rattle.soundness.proofs.WholeAnswers.{answer_examples}
use Rattle.soundness.proofs.examples.answers.Goals as goal

pub returns : goal.returns
returns c = answer_examples
