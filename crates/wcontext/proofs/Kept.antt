-- The rules that are asked in parts.
use Rattle.std.proofs.Common.{◌≡◌, ℕ, zero, suc, ◌<◌, ◌≤◌, length, sym, subst, arith, inl, inr}
use Rattle.std.proofs.lemmas.Bool.{cases_lt}
use Rattle.std.proofs.Math.ListN.{get_or-eq_default}
use Rattle.wsyntax.specs.Modules.{ModuleShape}
use Rattle.wsyntax.specs.Validation.Rules.{Keeps, NoneBroken, SegmentsValid, rules}

-- there is no rule after the last
no_more : (m : ModuleShape) (k : ℕ) → 13 < k → Keeps m k
no_more m zero above = tt
no_more m (suc i) above =
    let past : length rules ≤ i = omega arith in
    subst (λ (r : ModuleShape → Type 0). r m) (sym (get_or-eq_default rules (λ n. Unit {0}) past)) tt

-- rules 1 to 12, and 13
pub none_broken : (m : ModuleShape) → ((k : ℕ) → k < 13 → Keeps m k) → SegmentsValid m → NoneBroken m
none_broken m before last k =
    elim (cases_lt k 13) [
      | inl below ↦ before k below
      | inr above ↦ elim (cases_lt 13 k) [
        | inl more ↦ no_more m k more
        | inr most ↦ let is : 13 ≡ k = omega arith in subst (Keeps m) is last
      ]
    ]
