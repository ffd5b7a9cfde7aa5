use Rattle.refinement.proofs.Kept.Standing.{is_ready}
use Rattle.refinement.proofs.Kept.Turnings.{turning_of}
use Rattle.refinement.proofs.is_ready.Goals as goal

pub returns : goal.returns
returns c = is_ready (turning_of c.reduction_laws.ensures) c.safety_laws.ensures
