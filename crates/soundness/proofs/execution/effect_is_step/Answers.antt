use Rattle.soundness.proofs.Chapter4.Slots.{effect_is_step}
use Rattle.soundness.proofs.execution.effect_is_step.Goals as goal

pub returns : goal.returns
returns c = effect_is_step
