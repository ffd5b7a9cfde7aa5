-- A number that no word of 32 bits has.
use Rattle.std.proofs.Common.{◌≡◌, ◌≢◌, ℕ, ◌^◌, ◌<◌, List, ℤ, FitsSigned, None, Result, Ok, Err, sym, ◌∙◌, subst, arith}
use Rattle.std.specs.Fmt.{signed_decimal}
use Rattle.std.specs.Int.{w32, w64, cast_unsigned, cast_signed}
use Rattle.std.specs.Result.{OkIff, result_ok}
use Rattle.std.proofs.lemmas.Int.{ints, to_z-of_z}
use Rattle.std.proofs.lemmas.Fmt.{signed_decimal_injective}
use Rattle.wnum.specs.Arithmetic.{signed}

fits32 : (n : ℕ) → n < 2 ^ 32 → FitsSigned w32 (signed 32 n)
fits32 n h = search (arith, ints)

wider : (z : ℤ) → FitsSigned w32 z → FitsSigned w64 z
wider z h = search (arith, ints)

past : (text : List ℕ) (z : ℤ) → FitsSigned w64 z → text ≡ signed_decimal z → (FitsSigned w32 z → ⊥) → (n : ℕ) → n < 2 ^ 32 → text ≢ signed_decimal (signed 32 n)
past text z fits e none n small same =
    let wide = wider (signed 32 n) (fits32 n small) in
    let number : z ≡ signed 32 n = signed_decimal_injective z (signed 32 n) fits.sfits wide.sfits (sym e ∙ same) in
    none (subst (FitsSigned w32) (sym number) (fits32 n small))

-- a number is past the range where its conversion fails
pub word32_past : {E : Type 0} (text : List ℕ) (z : ℤ) (r : Result ℤ E) → FitsSigned w64 z → text ≡ signed_decimal z → OkIff r (FitsSigned w32 (cast_signed w64 (cast_unsigned w64 z))) (cast_signed w64 (cast_unsigned w64 z))
    → result_ok r ≡ None → (n : ℕ) → n < 2 ^ 32 → text ≢ signed_decimal (signed 32 n)
word32_past text z (Ok y) fits e is none = absurd cc
word32_past text z (Err f) fits e is none = past text z fits e (λ small. is (subst (FitsSigned w32) (sym (to_z-of_z w64 z fits)) small))
