use Rattle.soundness.proofs.Joined.Ends.{one_end_of}
use Rattle.soundness.proofs.texts.one_end_of.Goals as goal

pub returns : goal.returns
returns c = one_end_of
