use Rattle.soundness.proofs.Chapter4.Chains.{results_typed}
use Rattle.soundness.proofs.execution.results_typed.Goals as goal

pub returns : goal.returns
returns c = results_typed
