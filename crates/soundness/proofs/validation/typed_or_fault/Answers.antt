use Rattle.soundness.proofs.Chapter3.Faults.{typed_or_fault}
use Rattle.soundness.proofs.validation.typed_or_fault.Goals as goal

pub returns : goal.returns
returns c = typed_or_fault
