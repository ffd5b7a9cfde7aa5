use Rattle.soundness.proofs.Samples.{variable_examples, bytes_examples, block_examples}
use Rattle.soundness.proofs.examples.instructions.Goals as goal

pub returns : goal.returns
returns c = record { variables = variable_examples; bytes = bytes_examples; blocks = block_examples }
