use Rattle.soundness.proofs.Samples.{refusal_examples, fresh_examples}
use Rattle.soundness.proofs.examples.starts.Goals as goal

pub returns : goal.returns
returns c = record { refusals = refusal_examples; fresh = fresh_examples }
