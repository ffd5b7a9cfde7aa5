-- What was done to an instance is so of the handle that it was taken from.
use Rattle.std.proofs.Common.{◌≡◌, ℕ, sym, subst}
use Rattle.c_api.specs.declared.live.Live.{Live}

pub put_back : (P : Live → Live → ℕ → Type 0) (taken held left put : Live) (s s' : ℕ) → taken ≡ held → put ≡ left → s' ≡ s → P taken left s → P held put s'
put_back P taken held left put s s' a b e h =
    subst (λ (x : Live). P x put s') a (subst (λ (y : Live). P taken y s') (sym b) (subst (λ (n : ℕ). P taken left n) (sym e) h))
