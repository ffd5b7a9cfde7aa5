-- The history of a pool: a queue of memories, each seen as the number of its bytes.
-- It is one legal history of all tickets: only the first memory is lent.
use Rattle.std.specs.Prelude.{◌≡◌, ℕ, suc, ◌<◌, ◌≤◌, nat_eq, Bool, true, false, List, [], ◌∷◌, ◌++◌, length, take, drop}
use mathlib.Core.Option.{some}
use lib.ListN.{get_elem?}
use Rattle.memory.specs.declared.history.PoolStep.{PoolStep}
use Rattle.memory.specs.declared.history.PoolStep.TheVariants.{Gave, Lent}
use Rattle.memory.specs.declared.history.PoolEntry.{PoolEntry}
use Rattle.memory.specs.declared.history.TicketView.{TicketView}

-- a step of the ticket with this index
abbrev pub entry : ℕ → PoolStep → PoolEntry
entry ticket step = record { ticket = ticket; step = step }

-- what the ticket with this index knows
abbrev pub ticket_view : ℕ → Bool → List PoolEntry → List PoolStep → TicketView
ticket_view ticket newest seen made = record { ticket = ticket; newest = newest; seen = seen; made = made }

-- what a pool that keeps these memories, the first in front, keeps after a step
abbrev pub after_step : List ℕ → PoolStep → List ℕ
after_step kept (Gave n) = kept ++ n ∷ []
after_step kept (Lent n) = drop 1 kept

-- what the pool keeps after these steps
abbrev pub after : List ℕ → List PoolEntry → List ℕ
after kept [] = kept
after kept (e ∷ es) = after (after_step kept e.step) es

-- only the first memory is lent
abbrev pub CanMake : List ℕ → PoolStep → Type 0
CanMake kept (Gave n) = Unit {0}
CanMake kept (Lent n) = take 1 kept ≡ n ∷ []

-- each step of the history can be made where it stands
abbrev pub IsLegal : List ℕ → List PoolEntry → Type 0
IsLegal kept [] = Unit {0}
IsLegal kept (e ∷ es) = CanMake kept e.step × IsLegal (after_step kept e.step) es

-- the step, where the ticket made it
abbrev pub if_same : Bool → PoolStep → List PoolStep
if_same true step = step ∷ []
if_same false step = []

-- the steps that one ticket made, in order
abbrev pub made_by : ℕ → List PoolEntry → List PoolStep
made_by ticket [] = []
made_by ticket (e ∷ es) = if_same (nat_eq e.ticket ticket) e.step ++ made_by ticket es

-- a history begins with another
abbrev pub Begins : List PoolEntry → List PoolEntry → Type 0
Begins seen log = (more : List PoolEntry) × (log ≡ seen ++ more)

-- what a ticket knows of the history: its index, the beginning that it has seen, and that its steps are those that it made
pub record Knows (log : List PoolEntry) (count index : ℕ) (v : TicketView) : Type 0 where
  pub index' : v.ticket ≡ index
  pub newest : v.newest ≡ true → suc index ≡ count
  pub begins : Begins v.seen log
  pub own : made_by index log ≡ v.made

-- The rule of the queue: there is one legal history of the steps of all tickets, which leaves what the queue holds.
pub record IsInOrder (kept : List ℕ) (views : List TicketView) : Type 0 where
  pub log : List PoolEntry
  pub legal : IsLegal [] log
  pub leaves : after [] log ≡ kept
  pub fits : (index : ℕ) (v : TicketView) → get_elem? views index ≡ some v → Knows log (length views) index v
  pub none : (index : ℕ) → length views ≤ index → made_by index log ≡ []

-- After a step the ticket has seen a legal history that begins with all that it had seen before, and ends with the step.
-- Of this ticket it has the steps that it made and no others.
pub record Extends (v : TicketView) (step : PoolStep) (w : TicketView) : Type 0 where
  pub between : List PoolEntry
  pub seen : w.seen ≡ (v.seen ++ between) ++ entry v.ticket step ∷ []
  pub legal : IsLegal [] w.seen
  pub made : w.made ≡ v.made ++ step ∷ []
  pub own : made_by v.ticket w.seen ≡ w.made
  pub ticket : w.ticket ≡ v.ticket
  pub newest : w.newest ≡ v.newest

-- The pool was found with these memories: there is a legal history that begins with all that the ticket has seen and leaves
-- them. Of this ticket it has the steps that it made, and none of tickets above the greatest index. For a pool of one ticket
-- it is what the ticket has seen. Where there are more tickets, the others may have given and taken anything in between, so a
-- pool may have been found with any memories.
pub record Finds (v : TicketView) (kept : List ℕ) : Type 0 where
  pub log : List PoolEntry
  pub begins : Begins v.seen log
  pub legal : IsLegal [] log
  pub leaves : after [] log ≡ kept
  pub own : made_by v.ticket log ≡ v.made
  pub above : v.newest ≡ true → (index : ℕ) → v.ticket < index → made_by index log ≡ []
