use Rattle.std.proofs.Common.{ℕ}
use Rattle.memory.specs.Pools.{IsTicketOf, view_of, Repeats, AddsEmpty}
use Rattle.memory.proofs.pool.Pool.lend.Given as goal

abbrev pub invariant-loop : goal.invariant-loop
invariant-loop g l = IsTicketOf l.self l.ticket × ((k : ℕ) × Repeats AddsEmpty k (view_of l.fn.ticket) (view_of l.ticket))
