use Rattle.soundness.proofs.Samples.{growth_examples}
use Rattle.soundness.proofs.examples.growth.Goals as goal

pub returns : goal.returns
returns c = growth_examples
