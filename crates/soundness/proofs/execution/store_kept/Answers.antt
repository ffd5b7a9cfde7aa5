use Rattle.soundness.proofs.Chapter4.Chains.{store_kept}
use Rattle.soundness.proofs.execution.store_kept.Goals as goal

pub returns : goal.returns
returns c = store_kept
