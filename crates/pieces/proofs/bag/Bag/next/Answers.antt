use Rattle.std.proofs.Common.{ap, arith, []}
use Rattle.crossbeam_deque.specs.Handles.{worker_view, worker_port}
use Rattle.pieces.specs.Shares.{bag_view_of}
use Rattle.pieces.proofs.DequeSteps.{takes, never_empty}
use Rattle.pieces.proofs.bag.Bag.next.Goals as goal

pub pop_as-requires-clause-fifo : goal.pop_as-requires-clause-fifo
pop_as-requires-clause-fifo g c = let e = ap bag_view_of c.in-Pops.is in
    λ _. takes (worker_port c.in-Pops.worker) (worker_view c.in-Pops.worker) (rw e at c.requires.part.0) (rw e at c.requires.part.1)

pub pop_as-requires-clause-empty : goal.pop_as-requires-clause-empty
pop_as-requires-clause-empty g c = let e = ap bag_view_of c.in-Pops.is in
    λ views h at. never_empty _ _ (rw e at c.requires.part.1) [] views (omega arith) h at
