use Rattle.soundness.proofs.Joined.Functions.{one_instance}
use Rattle.soundness.proofs.instances.one_instance.Goals as goal

pub returns : goal.returns
returns c = one_instance
