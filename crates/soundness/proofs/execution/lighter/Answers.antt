use Rattle.soundness.proofs.Chapter4.Weight.{lighter}
use Rattle.soundness.proofs.execution.lighter.Goals as goal

pub returns : goal.returns
returns c = lighter
