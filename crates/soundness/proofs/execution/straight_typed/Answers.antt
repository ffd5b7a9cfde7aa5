use Rattle.soundness.proofs.Chapter4.Straight.{straight_typed}
use Rattle.soundness.proofs.execution.straight_typed.Goals as goal

pub returns : goal.returns
returns c = straight_typed
