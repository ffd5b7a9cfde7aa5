use Rattle.soundness.proofs.Chapter4.State.{state_typed}
use Rattle.soundness.proofs.execution.state_typed.Goals as goal

pub returns : goal.returns
returns c = state_typed
