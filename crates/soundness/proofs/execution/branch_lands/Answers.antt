use Rattle.soundness.proofs.Chapter4.State.{branch_lands}
use Rattle.soundness.proofs.execution.branch_lands.Goals as goal

pub returns : goal.returns
returns c = branch_lands
