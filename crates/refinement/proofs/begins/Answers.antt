use Rattle.refinement.proofs.Kept.Entering.{begins}
use Rattle.refinement.proofs.Kept.Turnings.{turning_of}
use Rattle.refinement.proofs.begins.Goals as goal

pub returns : goal.returns
returns c = begins (turning_of c.reduction_laws.ensures) c.safety_laws.ensures
