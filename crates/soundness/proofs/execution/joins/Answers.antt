use Rattle.soundness.proofs.Chapter4.Chains.{joins}
use Rattle.soundness.proofs.execution.joins.Goals as goal

pub returns : goal.returns
returns c = joins
