-- One more step, or none, after steps that the ticket has made.
use Rattle.std.proofs.Common.{◌≡◌, ◌∙◌, ℕ, suc, ◌⊎◌, inl, inr, subst, sym}
use Rattle.memory.specs.declared.history.TicketView.{TicketView}
use Rattle.memory.specs.Pools.{Repeats}

-- The ticket knows `u`, and what it knows as the last step begins is the same.
pub once_more : (step : TicketView → TicketView → Type 0) (v u before after : TicketView) → (k : ℕ) × Repeats step k v u → before ≡ u
    → (after ≡ before) ⊎ step before after → (k : ℕ) × Repeats step k v after
once_more step v u before after so_far same (inl none) = (so_far.0, subst (λ x. Repeats step so_far.0 v x) (sym (none ∙ same)) so_far.1)
once_more step v u before after so_far same (inr more) =
    (suc so_far.0, (before, subst (λ x. Repeats step so_far.0 v x) (sym same) so_far.1, more))
