use Rattle.soundness.proofs.Chapter3.Compose.{composes}
use Rattle.soundness.proofs.validation.composes.Goals as goal

pub returns : goal.returns
returns c = composes
