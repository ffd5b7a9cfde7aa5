use Rattle.soundness.proofs.Chapter4.Chains.{one_end}
use Rattle.soundness.proofs.execution.one_end.Goals as goal

pub returns : goal.returns
returns c = one_end
