-- The alignment of loads and stores.
use Rattle.std.proofs.Common.{◌≡◌, ℕ, ◌^◌, Bool, true, false, Option, Some, None, refl, sym, ap, ◌∙◌}
use Rattle.std.specs.Prelude.{nat_le}
use Rattle.std.proofs.lemmas.Bool.{leb-true, leb-false, le-leb, lt-leb}
use Rattle.std.proofs.Math.Pow.{pow_mono, pow-lt}
use Rattle.wsyntax.specs.declared.ValType.{ValType}
use Rattle.wsyntax.specs.Instructions.{Access}
use Rattle.wsyntax.specs.Validation.Algorithm.{Rule, when}

-- the rule of an access in a module that has a memory
pub with_memory : (has fits : Bool) (a n : ℕ) (m : Access) (t : ValType) (f : ValType → Rule) → has ≡ true → m.of_type ≡ t → m.align ≡ a → m.width ≡ 2 ^ n → fits ≡ nat_le (2 ^ a) (2 ^ n) → when fits (Some (f t)) ≡ when has (when (nat_le (2 ^ m.align) m.width) (Some (f m.of_type)))
with_memory has fits a n m t f h e1 e2 e3 e4 =
    ap (λ b. when b (Some (f t))) e4
    ∙ ap (λ x. when (nat_le (2 ^ x) (2 ^ n)) (Some (f t))) (sym e2)
    ∙ ap (λ x. when (nat_le (2 ^ m.align) x) (Some (f t))) (sym e3)
    ∙ ap (λ x. when (nat_le (2 ^ m.align) m.width) (Some (f x))) (sym e1)
    ∙ ap (λ b. when b (when (nat_le (2 ^ m.align) m.width) (Some (f m.of_type)))) (sym h)

-- in one that has none
pub no_memory : (has : Bool) (x : Option Rule) → has ≡ false → None ≡ when has x
no_memory has x h = ap (λ b. when b x) (sym h)

-- powers of 2 are in the order of their exponents
pub power_order : (a n : ℕ) → nat_le a n ≡ nat_le (2 ^ a) (2 ^ n)
power_order a n =
    (elim (nat_le a n) as (λ v. nat_le a n ≡ v → v ≡ nat_le (2 ^ a) (2 ^ n)) [
      | true ↦ λ e. sym (le-leb (2 ^ a) (2 ^ n) (pow_mono (leb-true a n e)))
      | false ↦ λ e. sym (lt-leb (2 ^ a) (2 ^ n) (pow-lt (leb-false a n e)))
    ]) refl
