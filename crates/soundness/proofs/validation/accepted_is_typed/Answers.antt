use Rattle.soundness.proofs.Chapter3.Faults.{accepted_is_typed}
use Rattle.soundness.proofs.validation.accepted_is_typed.Goals as goal

pub returns : goal.returns
returns c = accepted_is_typed
