use Rattle.soundness.proofs.Samples.{reached_bodies, unreached_bodies}
use Rattle.soundness.proofs.examples.bodies.Goals as goal

pub returns : goal.returns
returns c = record { reached = reached_bodies; unreached = unreached_bodies }
