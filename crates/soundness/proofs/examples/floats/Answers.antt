use Rattle.soundness.proofs.Samples.{float_examples}
use Rattle.soundness.proofs.examples.floats.Goals as goal

pub returns : goal.returns
returns c = float_examples
