use Rattle.soundness.proofs.Joined.Calls.{calls_typed}
use Rattle.soundness.proofs.instances.calls_typed.Goals as goal

pub returns : goal.returns
returns c = calls_typed
