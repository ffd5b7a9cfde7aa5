use Rattle.std.proofs.Common.{◌≡◌, ℕ}
use Rattle.memory.specs.Pools.{IsTicketOf, capacity_of, view_of, Repeats, DropsFirst}
use Rattle.memory.proofs.pool.Pool.give.Given as goal

abbrev pub invariant-loop : goal.invariant-loop
invariant-loop g l =
    IsTicketOf l.self l.ticket × (l.memory ≡ l.fn.memory)
    × ((k : ℕ) × Repeats (DropsFirst (capacity_of l.self)) k (view_of l.fn.ticket) (view_of l.ticket))
