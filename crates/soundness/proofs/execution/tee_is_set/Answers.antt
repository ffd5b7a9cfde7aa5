use Rattle.soundness.proofs.Chapter4.Slots.{tee_is_set}
use Rattle.soundness.proofs.execution.tee_is_set.Goals as goal

pub returns : goal.returns
returns c = tee_is_set
