use Rattle.soundness.proofs.Chapter4.Checked.{checked_is_typed}
use Rattle.soundness.proofs.execution.checked_is_typed.Goals as goal

pub returns : goal.returns
returns c = checked_is_typed
