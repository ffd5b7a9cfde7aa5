use Rattle.refinement.proofs.Kept.Reaching.{ends_well}
use Rattle.refinement.proofs.Kept.Turnings.{turning_of}
use Rattle.refinement.proofs.ends_well.Goals as goal

pub returns : goal.returns
returns c = ends_well (turning_of c.reduction_laws.ensures) c.safety_laws.ensures
