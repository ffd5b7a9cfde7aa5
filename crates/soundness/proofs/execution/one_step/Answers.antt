use Rattle.soundness.proofs.Chapter4.Chains.{one_step}
use Rattle.soundness.proofs.execution.one_step.Goals as goal

pub returns : goal.returns
returns c = one_step
