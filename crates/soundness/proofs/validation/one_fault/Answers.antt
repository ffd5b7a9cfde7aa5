use Rattle.soundness.proofs.Chapter3.Faults.{one_fault}
use Rattle.soundness.proofs.validation.one_fault.Goals as goal

pub returns : goal.returns
returns c = one_fault
