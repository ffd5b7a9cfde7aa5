use Rattle.soundness.proofs.Joined.Readings.{one_calls}
use Rattle.soundness.proofs.texts.one_calls.Goals as goal

pub returns : goal.returns
returns c = one_calls
