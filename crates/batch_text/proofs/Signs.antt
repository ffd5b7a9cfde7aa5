-- A signed number is read from its digits and what stands in front of them.
use Rattle.std.proofs.Common.{◌≡◌, ◌≢◌, ℕ, zero, suc, ◌^◌, ◌<◌, List, [], ◌∷◌, ◌++◌, ℤ, pos, negsuc, ◌-ℤ◌, FitsSigned, Option, Some, None, Result, Ok, Err, SomeIff, refl, sym, ap, ◌∙◌, subst, decimal, arith}
use Rattle.std.specs.Fmt.{signed_decimal}
use Rattle.std.specs.Int.{w64}
use Rattle.std.specs.Result.{OkIff, result_ok}
use Rattle.std.proofs.lemmas.Int.{ints}
use Rattle.std.proofs.lemmas.Fmt.{decimal_injective}
use Rattle.batch_text.specs.Reading.{IsReading}
use Rattle.batch_text.proofs.Decimals.{each_digit}

-- the sign is no digit
pub sign_no_digit : (n : ℕ) (rest : List ℕ) → n < 2 ^ 64 → 45 ∷ rest ≡ decimal n → ⊥
sign_no_digit n rest h e = let digit = each_digit (45 ∷ rest) n 0 h e (omega arith) in omega (arith, digit.0)

pub below : (n : ℕ) → FitsSigned w64 (pos n) → n < 2 ^ 64
below n fits = omega arith

pub below_suc : (n : ℕ) → FitsSigned w64 (negsuc n) → suc n < 2 ^ 64
below_suc n fits = omega arith

-- no number after the sign
pub negative_none : (digits : List ℕ) → ((a : ℕ) → a < 2 ^ 64 → digits ≢ decimal a) → (z : ℤ) → FitsSigned w64 z → ◌≢◌ {A = List ℕ} (45 ∷ digits) (signed_decimal z)
negative_none digits none (pos n) fits e = sign_no_digit n digits (below n fits) e
negative_none digits none (negsuc n) fits e = none (suc n) (below_suc n fits) cc

-- zero after the sign
pub negative_zero : (digits : List ℕ) → digits ≡ decimal 0 → (z : ℤ) → FitsSigned w64 z → ◌≢◌ {A = List ℕ} (45 ∷ digits) (signed_decimal z)
negative_zero digits at (pos n) fits e = sign_no_digit n digits (below n fits) e
negative_zero digits at (negsuc n) fits e =
    let same : decimal 0 ≡ decimal (suc n) = cc in
    let number : 0 ≡ suc n = decimal_injective 0 (suc n) (omega arith) (below_suc n fits) same in
    absurd (omega arith)

-- a number after the sign that is past the range
negative_past : (digits : List ℕ) (k : ℕ) → suc k < 2 ^ 64 → digits ≡ decimal (suc k) → (FitsSigned w64 (negsuc k) → ⊥) → (z : ℤ) → FitsSigned w64 z → ◌≢◌ {A = List ℕ} (45 ∷ digits) (signed_decimal z)
negative_past digits k small at none (pos n) fits e = sign_no_digit n digits (below n fits) e
negative_past digits k small at none (negsuc n) fits e =
    let same : decimal (suc k) ≡ decimal (suc n) = cc in
    let number : suc k ≡ suc n = decimal_injective (suc k) (suc n) small (below_suc n fits) same in
    none (subst (λ i. FitsSigned w64 (negsuc i)) (omega arith) fits)

minus : (k : ℕ) → pos 0 -ℤ pos (suc k) ≡ negsuc k
minus k = omega (arith, ints)

negative_some : (digits : List ℕ) (k : ℕ) (r : Option ℤ) → suc k < 2 ^ 64 → digits ≡ decimal (suc k) → SomeIff r (FitsSigned w64 (negsuc k)) (negsuc k) → IsReading (λ z. FitsSigned w64 z) signed_decimal (45 ∷ digits) r
negative_some digits k (Some z) small at (fits, e) = (subst (FitsSigned w64) (sym e) fits, ap (λ l. 45 ∷ l) at ∙ ap signed_decimal (sym e))
negative_some digits k None small at none = negative_past digits k small at none

-- another number after the sign
pub negative_read : (digits : List ℕ) (m : ℕ) (r : Option ℤ) → m < 2 ^ 64 → digits ≡ decimal m → (m ≡ 0 → ⊥) → SomeIff r (FitsSigned w64 (pos 0 -ℤ pos m)) (pos 0 -ℤ pos m)
    → IsReading (λ z. FitsSigned w64 z) signed_decimal (45 ∷ digits) r
negative_read digits zero r small at some h = absurd (some refl)
negative_read digits (suc k) r small at some h = negative_some digits k r small at (subst (λ z. SomeIff r (FitsSigned w64 z) z) (minus k) h)

-- no number, and no sign
pub positive_none : (text : List ℕ) → ((rest : List ℕ) → text ≢ (45 ∷ []) ++ rest) → ((a : ℕ) → a < 2 ^ 64 → text ≢ decimal a) → (z : ℤ) → FitsSigned w64 z → text ≢ signed_decimal z
positive_none text unsigned none (pos n) fits e = none n (below n fits) e
positive_none text unsigned none (negsuc n) fits e = unsigned (decimal (suc n)) e

-- a number without a sign that is past the range
positive_past : (text : List ℕ) (n : ℕ) → n < 2 ^ 64 → text ≡ decimal n → (FitsSigned w64 (pos n) → ⊥) → (z : ℤ) → FitsSigned w64 z → text ≢ signed_decimal z
positive_past text n small at none (pos k) fits e =
    let number : n ≡ k = decimal_injective n k small (below k fits) (sym at ∙ e) in
    none (subst (λ i. FitsSigned w64 (pos i)) (sym number) fits)
positive_past text n small at none (negsuc k) fits e = sign_no_digit n (decimal (suc k)) small (sym e ∙ at)

positive_result : {E : Type 0} (text : List ℕ) (n : ℕ) (r : Result ℤ E) → n < 2 ^ 64 → text ≡ decimal n → OkIff r (FitsSigned w64 (pos n)) (pos n) → IsReading (λ z. FitsSigned w64 z) signed_decimal text (result_ok r)
positive_result text n (Ok z) small at (fits, e) = (subst (FitsSigned w64) (sym e) fits, at ∙ ap signed_decimal (sym e))
positive_result text n (Err f) small at none = positive_past text n small at none

-- a number without a sign
pub positive_read : {E : Type 0} (text : List ℕ) (n : ℕ) (r : Result ℤ E) (o : Option ℤ) → n < 2 ^ 64 → text ≡ decimal n → OkIff r (FitsSigned w64 (pos n)) (pos n) → o ≡ result_ok r
    → IsReading (λ z. FitsSigned w64 z) signed_decimal text o
positive_read text n r o small at h is = subst (λ (o : Option ℤ). IsReading (λ z. FitsSigned w64 z) signed_decimal text o) (sym is) (positive_result text n r small at h)
