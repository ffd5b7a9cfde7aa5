-- Sums over views.
use Rattle.std.proofs.Common.{◌≡◌, ℕ, zero, suc, ◌+◌, ◌≤◌, List, [], ◌∷◌, ◌++◌, set, sym, refl, ap, arith}
use mathlib.Core.Option.{some, some-injective, some-ne-none}
use lib.ListN.{get_elem?}
use Rattle.pieces.specs.Counting.{total}

module _ {X : Type 0} (f : X → ℕ) where
  pub total-append : (xs ys : List X) → total f (xs ++ ys) ≡ total f xs + total f ys
  total-append [] ys = omega arith
  total-append (x ∷ xs) ys = let h = total-append xs ys in omega arith

  -- the total after a change of one
  pub total-set : (xs : List X) (i : ℕ) (v w : X) → get_elem? xs i ≡ some v → total f (set xs i w) + f v ≡ total f xs + f w
  total-set [] i v w at = absurd (some-ne-none v (sym at))
  total-set (x ∷ xs) zero v w at = let e : f x ≡ f v = ap f (some-injective x v at) in omega arith
  total-set (x ∷ xs) (suc i) v w at = let h = total-set xs i v w at in omega arith

  pub le-total : (xs : List X) (i : ℕ) (v : X) → get_elem? xs i ≡ some v → f v ≤ total f xs
  le-total [] i v at = absurd (some-ne-none v (sym at))
  le-total (x ∷ xs) zero v at = let e : f x ≡ f v = ap f (some-injective x v at) in omega arith
  le-total (x ∷ xs) (suc i) v at = let h = le-total xs i v at in omega arith

  pub total-zero : (xs : List X) → ((i : ℕ) (v : X) → get_elem? xs i ≡ some v → f v ≡ 0) → total f xs ≡ 0
  total-zero [] h = refl
  total-zero (x ∷ xs) h = let a : f x ≡ 0 = h 0 x refl in let b = total-zero xs (λ i v at. h (suc i) v at) in omega arith

-- Where one view has the whole of g, and f is 0 wherever g is, that view has the whole of f
pub total-one : {X : Type 0} (f g : X → ℕ) (xs : List X) (i : ℕ) (v : X) → get_elem? xs i ≡ some v → total g xs ≡ g v
    → ((j : ℕ) (u : X) → get_elem? xs j ≡ some u → g u ≡ 0 → f u ≡ 0) → total f xs ≡ f v
total-one f g [] i v at all none = absurd (some-ne-none v (sym at))
total-one f g (x ∷ xs) zero v at all none =
    let e : x ≡ v = some-injective x v at in let ef : f x ≡ f v = ap f e in let eg : g x ≡ g v = ap g e in
    let z = total-zero f xs (λ j u a. none (suc j) u a (let le = le-total g xs j u a in omega arith)) in omega arith
total-one f g (x ∷ xs) (suc i) v at all none =
    let le = le-total g xs i v at in let gx : g x ≡ 0 = omega arith in let fx : f x ≡ 0 = none 0 x refl gx in
    let h = total-one f g xs i v at (omega arith) (λ j u a. none (suc j) u a) in omega arith
