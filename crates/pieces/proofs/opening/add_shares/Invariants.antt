use Rattle.std.proofs.Common.{◌≡◌, ◌+◌, ◌-◌, [], false, vec_len}
use Rattle.crossbeam_deque.specs.Handles.{worker_deque, worker_view}
use Rattle.pieces.specs.Deque.{bag_view}
use Rattle.pieces.specs.MarkRule.{mark_view}
use Rattle.pieces.specs.Shares.{EachShare, IsNew, SameDeque}
use Rattle.pieces.proofs.opening.add_shares.Given as goal

abbrev pub invariant-loop : goal.invariant-loop
invariant-loop l = record {
  same : SameDeque l.fn.owner l.owner;
  view : worker_view l.owner ≡ bag_view (65 - l.counter) (l.workers + 1 - l.counter) l.count false [];
  seat : l.seat.table_id ≡ l.table.shared.table_id;
  me : l.seat.me ≡ (mark_view (65 - l.counter) [] [] [], []);
  len : vec_len l.shares + 1 ≡ l.counter;
  each : EachShare (IsNew (worker_deque l.fn.owner) l.count l.table.shared.table_id) l.shares.items;
}
