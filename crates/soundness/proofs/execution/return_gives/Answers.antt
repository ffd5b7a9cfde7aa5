use Rattle.soundness.proofs.Chapter4.State.{return_gives}
use Rattle.soundness.proofs.execution.return_gives.Goals as goal

pub returns : goal.returns
returns c = return_gives
