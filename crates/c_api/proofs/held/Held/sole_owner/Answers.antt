use Rattle.std.proofs.Common.{sym, subst}
use Rattle.accepted_module.specs.declared.accepted.Accepted.{Accepted}
use Rattle.c_api.specs.Handles.{IsOfBytes}
use Rattle.c_api.proofs.held.Held.sole_owner.Goals as goal

pub invariant_of-sendable : goal.invariant_of-sendable
invariant_of-sendable c = record { of_bytes = subst (λ (a : Accepted). ∥ IsOfBytes a ∥₁) (sym c.in-Ok.ensures.ok) ∣ c.requires ∣₁ }
