use Rattle.soundness.proofs.Chapter4.Weight.{end_exists}
use Rattle.soundness.proofs.execution.end_exists.Goals as goal

pub returns : goal.returns
returns c = end_exists
