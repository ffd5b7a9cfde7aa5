use Rattle.soundness.proofs.Several.{several_examples, two_results}
use Rattle.soundness.proofs.examples.several_values.Goals as goal

pub returns : goal.returns
returns c = record { blocks = several_examples; calls = two_results }
