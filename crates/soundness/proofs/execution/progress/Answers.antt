use Rattle.soundness.proofs.Chapter4.Chains.{progress}
use Rattle.soundness.proofs.execution.progress.Goals as goal

pub returns : goal.returns
returns c = progress
