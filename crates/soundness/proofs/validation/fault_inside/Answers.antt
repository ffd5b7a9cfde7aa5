use Rattle.soundness.proofs.Chapter3.Faults.{fault_inside}
use Rattle.soundness.proofs.validation.fault_inside.Goals as goal

pub returns : goal.returns
returns c = fault_inside
