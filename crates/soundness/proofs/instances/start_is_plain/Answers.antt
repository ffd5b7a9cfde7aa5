use Rattle.soundness.proofs.Joined.Calls.{start_is_plain}
use Rattle.soundness.proofs.instances.start_is_plain.Goals as goal

pub returns : goal.returns
returns c = start_is_plain
