use Rattle.soundness.proofs.Chapter3.Faults.{typed_where_no_fault}
use Rattle.soundness.proofs.validation.typed_where_no_fault.Goals as goal

pub returns : goal.returns
returns c = typed_where_no_fault
