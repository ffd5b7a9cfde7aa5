use Rattle.std.proofs.Common.{◌≡◌, ◌+◌, ◌≤◌, [], false}
use Rattle.crossbeam_deque.specs.Handles.{worker_capacity, worker_index, worker_view}
use Rattle.pieces.specs.Deque.{bag_view}
use Rattle.pieces.specs.Shares.{SameDeque}
use Rattle.pieces.proofs.opening.add_ends.Given as goal

abbrev pub invariant-loop-ends : goal.invariant-loop-ends
invariant-loop-ends l = SameDeque l.fn.owner l.owner × (worker_index l.owner ≡ worker_index l.fn.owner + l.ends) × (worker_capacity l.fn.owner ≤ worker_capacity l.owner) × (worker_view l.owner ≡ bag_view 64 l.ends l.count false [])
