-- What a clause says of a pool and its tickets.
-- A memory that is lent is the first, and one that is given is kept. What was put in or dropped for that is exact for a pool of one
-- ticket: for several, the steps of the others are not known.
use Rattle.std.specs.Prelude.{◌≡◌, ℕ, zero, suc, List, [], ◌∷◌, ◌++◌, List, All, map, length}
use Rattle.crossbeam_queue.specs.Fifo.{Held}
use Rattle.crossbeam_queue.specs.Passes.{view, IsPassOf, ruled_capacity}
use Rattle.memory.specs.declared.pool.Pool.{Pool}
use Rattle.memory.specs.declared.pool.Ticket.{Ticket}
use Rattle.memory.specs.declared.history.PoolStep.TheVariants.{Gave, Lent}
use Rattle.memory.specs.declared.history.TicketView.{TicketView}
use Rattle.memory.specs.PoolHistory.{Extends, Finds}

-- how many memories it keeps at most
abbrev pub capacity_of : Pool → ℕ
capacity_of p = ruled_capacity p.queue

-- what a ticket knows
abbrev pub view_of : Ticket → TicketView
view_of t = view t.pass

-- the ticket was made with this pool
abbrev pub IsTicketOf : Pool → Ticket → Type 0
IsTicketOf p t = IsPassOf p.queue t.pass

-- the indices below n
abbrev pub indices_below : ℕ → List ℕ
indices_below zero = []
indices_below (suc n) = indices_below n ++ n ∷ []

-- a ticket of this pool that has made no step
pub record IsNew (p : Pool) (t : Ticket) : Type 0 where
  pub of : IsTicketOf p t
  pub seen : (view_of t).seen ≡ []
  pub made : (view_of t).made ≡ []

-- all tickets of a new pool: one for each index, in order
pub record AreIssued (p : Pool) (tickets : List Ticket) : Type 0 where
  pub each : All (IsNew p) tickets
  pub indexed : map (λ (t : Ticket). (view_of t).ticket) tickets ≡ indices_below (length tickets)

-- a number of steps, one after another
abbrev pub Repeats : (TicketView → TicketView → Type 0) → ℕ → TicketView → TicketView → Type 0
Repeats step zero v w = w ≡ v
Repeats step (suc k) v w = (u : TicketView) × Repeats step k v u × step u w

-- the pool was found empty, and an empty memory was put in
abbrev pub AddsEmpty : TicketView → TicketView → Type 0
AddsEmpty v w = Held 0 (Finds v) × Extends v (Gave 0) w

-- the pool was found full, and the first memory was taken and dropped
abbrev pub DropsFirst : ℕ → TicketView → TicketView → Type 0
DropsFirst capacity v w = Held capacity (Finds v) × ((n : ℕ) × Extends v (Lent n) w)

-- A memory of n bytes was lent: the first that the pool kept, after empty ones were put in where it was found empty.
-- That it is the first holds for any number of tickets. How many empty ones were put in is exact for a pool of one ticket, one
-- where it kept none and else none; for more tickets it is left open.
abbrev pub LendsFrom : TicketView → ℕ → TicketView → Type 0
LendsFrom v n w = (k : ℕ) × (u : TicketView) × Repeats AddsEmpty k v u × Extends u (Lent n) w

-- A memory of n bytes was given: it is kept after the others, after first ones were dropped where the pool was found full.
-- That it is kept holds for any number of tickets. How many were dropped is exact for a pool of one ticket, one where it was
-- full and else none; for more tickets it is left open.
abbrev pub GivesTo : ℕ → TicketView → ℕ → TicketView → Type 0
GivesTo capacity v n w = (k : ℕ) × (u : TicketView) × Repeats (DropsFirst capacity) k v u × Extends u (Gave n) w
