use Rattle.soundness.proofs.Chapter4.Running.{computed}
use Rattle.soundness.proofs.execution.computed.Goals as goal

pub returns : goal.returns
returns c = computed
