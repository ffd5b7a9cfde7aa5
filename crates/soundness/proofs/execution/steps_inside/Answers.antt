use Rattle.soundness.proofs.Chapter4.Layers.{steps_inside}
use Rattle.soundness.proofs.execution.steps_inside.Goals as goal

pub returns : goal.returns
returns c = steps_inside
