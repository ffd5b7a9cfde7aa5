use Rattle.soundness.proofs.Chapter4.State.{frames_stand}
use Rattle.soundness.proofs.execution.frames_stand.Goals as goal

pub returns : goal.returns
returns c = frames_stand
