-- What is taken of a frame in which no operand is known.
use Rattle.std.proofs.Common.{◌≡◌, ◌≤◌, ◌<◌, ℕ, true, false, List, [], ◌∷◌, take, reverse, length, Some, None, refl, sym, ap, ◌∙◌, subst, arith, length-take}
use Rattle.std.proofs.lemmas.List.{length-reverse}
use Rattle.wsyntax.specs.Validation.Context.{Stack}
use Rattle.wsyntax.specs.Validation.Algorithm.{Operands, pop_all, is_nil, when}

abbrev dead : Operands
dead = record { known = []; is_dead = true }

taken : (ts : Stack) → pop_all ts dead ≡ Some dead
taken [] = refl
taken (t ∷ ts) = taken ts

nil_is : {A : Type 0} (xs : List A) → is_nil xs ≡ true → xs ≡ []
nil_is [] e = refl
nil_is (x ∷ xs) e = absurd cc

pub taken_dead : (ts : Stack) (o : Operands) → o.is_dead ≡ true → is_nil o.known ≡ true → pop_all ts o ≡ Some o
taken_dead ts o d e =
    let k = nil_is o.known e in
    let same : o ≡ dead = ap (λ x. record { known = x; is_dead = o.is_dead }) k ∙ ap (λ x. record { known = []; is_dead = x }) d in
    subst (λ x. pop_all ts x ≡ Some x) (sym same) (taken ts)

-- what is taken of no known operands
pub taken_none : (ts : Stack) (o : Operands) → (ts ≡ [] → ⊥) → is_nil o.known ≡ true → pop_all ts o ≡ when o.is_dead (Some o)
taken_none [] o ne e = absurd (ne refl)
taken_none (t ∷ ts) o ne e =
    (elim o.is_dead as (λ v. o.is_dead ≡ v → pop_all (t ∷ ts) o ≡ when v (Some o)) [
      | true ↦ λ d. taken_dead (t ∷ ts) o d e
      | false ↦ λ d. let same : o ≡ record { known = []; is_dead = false } = ap (λ x. record { known = x; is_dead = o.is_dead }) (nil_is o.known e) ∙ ap (λ x. record { known = []; is_dead = x }) d in
          subst (λ x. pop_all (t ∷ ts) x ≡ None) (sym same) refl
    ]) refl

not_nil : (ts : Stack) → 0 < length ts → ts ≡ [] → ⊥
not_nil [] lt e = omega (arith, lt)
not_nil (t ∷ ts) lt e = absurd cc

pub taken_empty : (ts : Stack) (i : ℕ) (o : Operands) → 0 < i → i ≤ length ts → is_nil o.known ≡ true → pop_all (reverse (take i ts)) o ≡ when o.is_dead (Some o)
taken_empty ts i o lt le e =
    let n : 0 < length (reverse (take i ts)) = omega (arith, length-reverse (take i ts), length-take i ts) in
    taken_none (reverse (take i ts)) o (not_nil _ n) e
