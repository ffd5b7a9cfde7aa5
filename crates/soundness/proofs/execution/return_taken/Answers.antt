use Rattle.soundness.proofs.Chapter4.Layers.{return_taken}
use Rattle.soundness.proofs.execution.return_taken.Goals as goal

pub returns : goal.returns
returns c = return_taken
