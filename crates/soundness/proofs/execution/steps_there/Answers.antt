use Rattle.soundness.proofs.Chapter4.State.{steps_there}
use Rattle.soundness.proofs.execution.steps_there.Goals as goal

pub returns : goal.returns
returns c = steps_there
