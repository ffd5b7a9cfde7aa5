use Rattle.soundness.proofs.Chapter4.State.{return_ends}
use Rattle.soundness.proofs.execution.return_ends.Goals as goal

pub returns : goal.returns
returns c = return_ends
