use Rattle.soundness.proofs.Samples.{operator_examples}
use Rattle.soundness.proofs.examples.operators.Goals as goal

pub returns : goal.returns
returns c = operator_examples
