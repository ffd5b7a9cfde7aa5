use Rattle.soundness.proofs.EndsOfCalls.{end_examples}
use Rattle.soundness.proofs.examples.ends_of_calls.Goals as goal

pub returns : goal.returns
returns c = end_examples
