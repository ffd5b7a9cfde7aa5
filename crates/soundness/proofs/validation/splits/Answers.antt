use Rattle.soundness.proofs.Chapter3.Compose.{splits}
use Rattle.soundness.proofs.validation.splits.Goals as goal

pub returns : goal.returns
returns c = splits
