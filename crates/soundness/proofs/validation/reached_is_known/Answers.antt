use Rattle.soundness.proofs.Chapter3.Known.{reached_is_known}
use Rattle.soundness.proofs.validation.reached_is_known.Goals as goal

pub returns : goal.returns
returns c = reached_is_known
