use Rattle.soundness.proofs.Chapter3.Faults.{runs_decide}
use Rattle.soundness.proofs.validation.runs_decide.Goals as goal

pub returns : goal.returns
returns c = runs_decide
