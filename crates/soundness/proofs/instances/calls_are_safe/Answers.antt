use Rattle.soundness.proofs.Joined.Calls.{calls_are_safe}
use Rattle.soundness.proofs.instances.calls_are_safe.Goals as goal

pub returns : goal.returns
returns c = calls_are_safe
