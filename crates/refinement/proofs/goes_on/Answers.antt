use Rattle.refinement.proofs.Kept.Reaching.{goes_on}
use Rattle.refinement.proofs.Kept.Turnings.{turning_of}
use Rattle.refinement.proofs.goes_on.Goals as goal

pub returns : goal.returns
returns c = goes_on (turning_of c.reduction_laws.ensures) c.safety_laws.ensures
