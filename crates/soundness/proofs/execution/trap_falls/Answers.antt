use Rattle.soundness.proofs.Chapter4.State.{trap_falls}
use Rattle.soundness.proofs.execution.trap_falls.Goals as goal

pub returns : goal.returns
returns c = trap_falls
