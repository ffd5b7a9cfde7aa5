use Rattle.soundness.proofs.Chapter3.Faults.{refused_at_first_fault}
use Rattle.soundness.proofs.validation.refused_at_first_fault.Goals as goal

pub returns : goal.returns
returns c = refused_at_first_fault
