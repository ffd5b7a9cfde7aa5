use Rattle.soundness.proofs.Chapter3.Faults.{typed_is_accepted}
use Rattle.soundness.proofs.validation.typed_is_accepted.Goals as goal

pub returns : goal.returns
returns c = typed_is_accepted
