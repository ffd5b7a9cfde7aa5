use Rattle.soundness.proofs.Chapter4.Chains.{one_of_three}
use Rattle.soundness.proofs.execution.one_of_three.Goals as goal

pub returns : goal.returns
returns c = one_of_three
