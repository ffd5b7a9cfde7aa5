use Rattle.soundness.proofs.Samples.{count_examples}
use Rattle.soundness.proofs.examples.counts.Goals as goal

pub returns : goal.returns
returns c = count_examples
