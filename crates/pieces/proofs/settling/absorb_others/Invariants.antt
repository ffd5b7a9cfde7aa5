use Rattle.std.proofs.Common.{◌≡◌, ◌<◌, ℕ}
use Rattle.crossbeam_deque.specs.Handles.{worker_deque, worker_view}
use Rattle.pieces.specs.Shares.{EachShare, IsIn, IsOn, IsStealing}
use Rattle.pieces.specs.Absorbing.{Absorbs}
use Rattle.pieces.proofs.settling.absorb_others.Given as goal

abbrev pub invariant-loop-share : goal.invariant-loop-share
invariant-loop-share l = record {
  deque : worker_deque l.owner ≡ worker_deque l.fn.owner;
  table : l.seat.table_id ≡ l.fn.seat.table_id;
  parts : (0 < (worker_view l.owner).parts) × (0 < l.seat.me.0.parts);
  others : (count : ℕ) × EachShare (IsIn (worker_deque l.fn.owner) count) l.others.items × EachShare (IsOn l.table.shared.table_id) l.others.items × EachShare (λ t. IsStealing t.access) l.others.items;
  all : Absorbs (worker_view l.owner) l.seat.me.0 l.others.items (worker_view l.fn.owner) l.fn.seat.me.0 l.fn.others.items;
}

abbrev pub decreases-loop-share : goal.decreases-loop-share
decreases-loop-share l = goal.left-loop-share l
