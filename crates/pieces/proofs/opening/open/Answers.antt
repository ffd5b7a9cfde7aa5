use Rattle.pieces.proofs.DequeSteps.{begins}
use Rattle.pieces.proofs.opening.open.Goals as goal

pub fifo_as-requires : goal.fifo_as-requires
fifo_as-requires c = begins
