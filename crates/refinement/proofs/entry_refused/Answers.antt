use Rattle.refinement.proofs.Kept.Entering.{entry_refused}
use Rattle.refinement.proofs.Kept.Turnings.{turning_of}
use Rattle.refinement.proofs.entry_refused.Goals as goal

pub returns : goal.returns
returns c = entry_refused (turning_of c.reduction_laws.ensures) c.safety_laws.ensures
