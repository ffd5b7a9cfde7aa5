use Rattle.soundness.proofs.Chapter4.Chains.{counts_add}
use Rattle.soundness.proofs.execution.counts_add.Goals as goal

pub returns : goal.returns
returns c = counts_add
