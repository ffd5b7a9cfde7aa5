-- Bytes that are read in two steps.
use Rattle.std.proofs.Common.{◌≡◌, refl, sym, ◌∙◌, ℕ, zero, suc, ◌-◌, List, [], ◌∷◌, ◌++◌, Option, Some, None, IfSome, take, length, ap}
use native.Mathlib.Numerals.{unary_clauses}
use Rattle.std.specs.Io.KnownBytes.{Consumes}

-- the first of the first are the first
twice : (n : ℕ) (xs : List ℕ) → take n (take n xs) ≡ take n xs
twice zero xs = refl
twice (suc n) [] = refl
twice (suc n) (x ∷ xs) = ap (λ rest. x ∷ rest) (twice n xs)

-- the first bytes, and of the rest as many as there is room for, are the first of all
all_in_all : (most : ℕ) (front rest : List ℕ) → take most (front ++ take (most - length front) rest) ≡ take most (front ++ rest)
all_in_all most [] rest = simp unary_clauses (twice most rest)
all_in_all zero (x ∷ front) rest = refl
all_in_all (suc most) (x ∷ front) rest = simp unary_clauses (ap (λ rest. x ∷ rest) (all_in_all most front rest))

-- what one read gave, and of what it left as much as there is room for, is the beginning of all
pub whole : (held left : Option (List ℕ)) (most : ℕ) (given front all cut : List ℕ) → Consumes held left given → front ≡ given → IfSome left (λ rest. all ≡ front ++ take (most - length front) rest) → cut ≡ take most all → IfSome held (λ bytes. cut ≡ take most bytes)
whole None left most given front all cut c f k e = tt
whole (Some held) None most given front all cut c f k e = elim c [ ]
whole (Some held) (Some rest) most given front all cut c f k e = e ∙ ap (take most) k ∙ all_in_all most front rest ∙ sym (ap (take most) (c ∙ ap (λ it. it ++ rest) (sym f)))
