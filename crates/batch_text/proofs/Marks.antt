-- Where a text stops at a mark.
use Rattle.std.proofs.Common.{◌≡◌, ◌≢◌, ℕ, suc, ◌^◌, ◌<◌, List, [], ◌∷◌, ◌++◌, get_or, pos, negsuc, ℤ, FitsSigned, All, decimal, refl, ◌∙◌, arith}
use Rattle.std.specs.Fmt.{signed_decimal}
use Rattle.std.specs.Int.{w64}
use Rattle.std.specs.List.{AllByRecursion}
use Rattle.std.proofs.lemmas.Int.{ints}
use Rattle.std.proofs.lemmas.List.{get_or_default}
use Rattle.std.proofs.lemmas.List.Elements.{recursion_from_All, All-from_recursion, All-cons}
use Rattle.wnum.specs.Arithmetic.{signed}
use Rattle.wsyntax.specs.declared.value.Value.{Value}
use Rattle.wsyntax.specs.declared.value.Value.TheVariants.{I32 as V32, I64 as V64}
use Rattle.wsyntax.specs.Execution.Values.{IsWord}
use Rattle.wsyntax.specs.Texts.Words.{value_text}
use Rattle.batch_text.specs.Reading.{StopsAt}
use Rattle.batch_text.proofs.Decimals.{each_digit}

-- before the first mark a text is split in one way
split_once : (m : ℕ) (f g r s : List ℕ) → AllByRecursion (λ b. b ≢ m) f → AllByRecursion (λ b. b ≢ m) g → StopsAt m r → StopsAt m s → f ++ r ≡ g ++ s → (f ≡ g) × (r ≡ s)
split_once m [] [] r s af ag sr ss e = (refl, e)
split_once m [] (b ∷ g) [] s af ag sr ss e = absurd cc
split_once m [] (b ∷ g) (c ∷ r) s af ag sr ss e = let h : b ≡ c = cc in absurd (ag.0 (h ∙ sr))
split_once m (a ∷ f) [] r [] af ag sr ss e = absurd cc
split_once m (a ∷ f) [] r (c ∷ s) af ag sr ss e = let h : a ≡ c = cc in absurd (af.0 (h ∙ ss))
split_once m (a ∷ f) (b ∷ g) r s af ag sr ss e =
    let h : a ≡ b = cc in
    let t : f ++ r ≡ g ++ s = cc in
    let (p, q) = split_once m f g r s af.1 ag.1 sr ss t in
    (cc, q)

pub split_unique : (m : ℕ) (f g r s : List ℕ) → All (λ b. b ≢ m) f → All (λ b. b ≢ m) g → StopsAt m r → StopsAt m s → f ++ r ≡ g ++ s → (f ≡ g) × (r ≡ s)
split_unique m f g r s af ag sr ss e = split_once m f g r s (recursion_from_All (λ b. b ≢ m) f af) (recursion_from_All (λ b. b ≢ m) g ag) sr ss e

front_of : (P : ℕ → Type 0) (xs ys : List ℕ) → AllByRecursion P (xs ++ ys) → AllByRecursion P xs
front_of P [] ys h = tt
front_of P (x ∷ xs) ys h = (h.0, front_of P xs ys h.1)

-- what holds of each byte holds of each in front
pub All-front : (P : ℕ → Type 0) (xs ys : List ℕ) → All P (xs ++ ys) → All P xs
All-front P xs ys h = All-from_recursion P xs (front_of P xs ys (recursion_from_All P (xs ++ ys) h))

-- A value holds no tab.

digits_free : (n : ℕ) → n < 2 ^ 64 → All (λ b. b ≢ 9) (decimal n)
digits_free n h k d l e =
    let r = each_digit (decimal n) n k h refl l in
    let same : get_or (decimal n) k d ≡ get_or (decimal n) k 0 = get_or_default (decimal n) k d 0 l in
    omega (arith, r.0)

number_free : (z : ℤ) → FitsSigned w64 z → All (λ b. b ≢ 9) (signed_decimal z)
number_free (pos n) h = digits_free n (omega arith)
number_free (negsuc n) h = All-cons (λ b. b ≢ 9) 45 (decimal (suc n)) (λ e. omega arith) (digits_free (suc n) (omega arith))

prefix_free : (a b c d : ℕ) (text : List ℕ) → (a ≢ 9) → (b ≢ 9) → (c ≢ 9) → (d ≢ 9) → All (λ b. b ≢ 9) text → All (λ b. b ≢ 9) (a ∷ b ∷ c ∷ d ∷ text)
prefix_free a b c d text p q r s h = All-cons (λ b. b ≢ 9) a (b ∷ c ∷ d ∷ text) p (All-cons (λ b. b ≢ 9) b (c ∷ d ∷ text) q (All-cons (λ b. b ≢ 9) c (d ∷ text) r (All-cons (λ b. b ≢ 9) d text s h)))

pub value_free : (v : Value) → IsWord v → All (λ b. b ≢ 9) (value_text v)
value_free (V32 n) h = prefix_free 105 51 50 58 (signed_decimal (signed 32 n)) (λ e. omega arith) (λ e. omega arith) (λ e. omega arith) (λ e. omega arith) (number_free (signed 32 n) (search (arith, ints)))
value_free (V64 n) h = prefix_free 105 54 52 58 (signed_decimal (signed 64 n)) (λ e. omega arith) (λ e. omega arith) (λ e. omega arith) (λ e. omega arith) (number_free (signed 64 n) (search (arith, ints)))
