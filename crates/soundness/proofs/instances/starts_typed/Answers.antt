use Rattle.soundness.proofs.Joined.Fresh.{starts_typed}
use Rattle.soundness.proofs.instances.starts_typed.Goals as goal

pub returns : goal.returns
returns c = starts_typed
