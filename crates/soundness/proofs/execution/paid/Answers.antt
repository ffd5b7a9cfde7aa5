use Rattle.soundness.proofs.Chapter4.Chains.{paid}
use Rattle.soundness.proofs.execution.paid.Goals as goal

pub returns : goal.returns
returns c = paid
