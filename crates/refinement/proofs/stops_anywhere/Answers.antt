use Rattle.refinement.proofs.Kept.Stopping.{stops_anywhere}
use Rattle.refinement.proofs.stops_anywhere.Goals as goal

pub returns : goal.returns
returns c = stops_anywhere c.safety_laws.ensures
