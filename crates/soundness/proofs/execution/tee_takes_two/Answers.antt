use Rattle.soundness.proofs.Chapter4.Leads.{tee_takes_two}
use Rattle.soundness.proofs.execution.tee_takes_two.Goals as goal

pub returns : goal.returns
returns c = tee_takes_two
