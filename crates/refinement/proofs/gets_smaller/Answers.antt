use Rattle.refinement.proofs.Kept.Callers.{gets_smaller}
use Rattle.refinement.proofs.Kept.Turnings.{turning_of}
use Rattle.refinement.proofs.gets_smaller.Goals as goal

pub returns : goal.returns
returns c = gets_smaller (turning_of c.reduction_laws.ensures) c.safety_laws.ensures
