use Rattle.soundness.proofs.Joined.Alone.{sole_instantiated}
use Rattle.soundness.proofs.instances.sole_instantiated.Goals as goal

pub returns : goal.returns
returns c = sole_instantiated
