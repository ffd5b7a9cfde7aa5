use Rattle.std.proofs.Common.{◌≡◌, [], false}
use Rattle.crossbeam_deque.specs.Handles.{worker_index, worker_view, SameWorker}
use Rattle.pieces.specs.Deque.{bag_view}
use Rattle.pieces.proofs.opening.add_pieces.Given as goal

abbrev pub invariant-loop-position : goal.invariant-loop-position
invariant-loop-position l = SameWorker l.fn.owner l.owner × (worker_index l.owner ≡ l.position) × (worker_view l.owner ≡ bag_view 64 0 l.position false [])
