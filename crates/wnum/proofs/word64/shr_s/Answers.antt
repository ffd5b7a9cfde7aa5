use Rattle.std.proofs.Common.{◌≡◌, ◌%◌, ap, ◌∙◌, arith, rules, ltb, ◌^◌, ◌-◌, ℕ, refl}
use Rattle.std.specs.Prelude.{FitsSigned}
use Rattle.std.specs.Int.{w64, cast_unsigned, int_shr}
use Rattle.std.proofs.lemmas.Int.{to_z-of_z}
use Rattle.wnum.specs.Arithmetic.{shift_signed}
use Rattle.wnum.proofs.Shifts.{shift_signed_is}
use Rattle.wnum.proofs.word64.shr_s.Goals as goal

pub returns : goal.returns
returns c =
    let x = c.args.x in
    let k : ℕ = c.args.y % 64 % 64 in
    let fits_x : FitsSigned w64 c.cast_signed.result = search rules in
    let fits_shifted : FitsSigned w64 c.wrapping_shr.result = search rules in
    let shifted = ap (λ z. int_shr z k) (to_z-of_z w64 _ fits_x ∙ c.cast_signed.ensures) in
    let is : c.cast_unsigned.result ≡ shift_signed 64 x (c.args.y % 64) =
    c.cast_unsigned.ensures ∙ ap (cast_unsigned w64) (to_z-of_z w64 _ fits_shifted ∙ c.wrapping_shr.ensures ∙ shifted)
    ∙ shift_signed_is 64 k x (ltb x (2 ^ (64 - 1))) (omega arith) (omega arith) (cast_unsigned w64) (λ m. refl) (λ m. refl) ∙ ap (shift_signed 64 x) (omega arith) in
    cc
