use Rattle.soundness.proofs.Chapter4.Pair.{pair_typed}
use Rattle.soundness.proofs.execution.pair_typed.Goals as goal

pub returns : goal.returns
returns c = pair_typed
