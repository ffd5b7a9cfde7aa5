use Rattle.soundness.proofs.Chapter4.Chains.{preservation}
use Rattle.soundness.proofs.execution.preservation.Goals as goal

pub returns : goal.returns
returns c = preservation
