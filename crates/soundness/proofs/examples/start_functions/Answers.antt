use Rattle.soundness.proofs.StartFirst.{start_first_examples}
use Rattle.soundness.proofs.examples.start_functions.Goals as goal

pub returns : goal.returns
returns c = start_first_examples
