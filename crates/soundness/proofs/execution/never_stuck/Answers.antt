use Rattle.soundness.proofs.Chapter4.Chains.{never_stuck}
use Rattle.soundness.proofs.execution.never_stuck.Goals as goal

pub returns : goal.returns
returns c = never_stuck
