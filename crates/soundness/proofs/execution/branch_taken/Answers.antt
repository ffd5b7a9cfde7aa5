use Rattle.soundness.proofs.Chapter4.Layers.{branch_taken}
use Rattle.soundness.proofs.execution.branch_taken.Goals as goal

pub returns : goal.returns
returns c = branch_taken
