use Rattle.soundness.proofs.Chapter4.Allocation.{fresh_typed}
use Rattle.soundness.proofs.execution.fresh_typed.Goals as goal

pub returns : goal.returns
returns c = fresh_typed
