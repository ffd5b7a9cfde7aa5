use Rattle.std.proofs.Common.{◌≡◌, ◌+◌, [], vec_len}
use Rattle.std.specs.Prelude.{true}
use Rattle.crossbeam_queue.specs.Passes.{view, IsPassOf}
use Rattle.memory.specs.PoolHistory.{ticket_view}
use Rattle.memory.specs.Pools.{AreIssued}
use Rattle.memory.proofs.pool.Pool.issue.Given as goal

abbrev pub invariant-loop : goal.invariant-loop
invariant-loop l = record {
  pass : IsPassOf l.self.queue l.newest;
  view : view l.newest ≡ ticket_view (vec_len l.tickets) true [] [];
  count : vec_len l.tickets + 1 ≡ l.counter;
  issued : AreIssued l.self l.tickets.items;
}
