-- The counts of zeros and ones of a word are those that the machine's instructions give.
use Rattle.std.proofs.Common.{◌≡◌, ℕ, zero, suc, ◌+◌, ◌*◌, ◌%◌, ◌/◌, ◌^◌, ◌<◌, ◌≤◌, Bool, true, false, cond, ltb, eqb, refl, sym, ap, ◌∙◌, arith}
use Rattle.std.proofs.Math.Nat.{pow-suc}
use Rattle.std.proofs.lemmas.Bool.{ltb-true, ltb-false}
use Rattle.std.proofs.lemmas.Bool.Decides.{nat_tests}
use Rattle.std.specs.Int.Count.{count_leading_zeros, count_trailing_zeros, under, leading_unique, ones-le, ones_step}
use Rattle.std.specs.Prelude.{count_ones}
use Rattle.wnum.specs.Arithmetic.{leading, trailing, ones}

-- zeros and digits are n together, and x has that many digits and no fewer
record HasZeros (n x zeros : ℕ) : Type 0 where
  digits : ℕ
  all : zeros + digits ≡ n
  below : x < 2 ^ digits
  least : 2 ^ digits ≤ 2 * x + 1

leading_by : (n x : ℕ) (t : Bool) → ltb x (2 ^ n) ≡ t → x < 2 ^ suc n → (x < 2 ^ n → HasZeros n x (leading n x)) → HasZeros (suc n) x (cond t (leading n x + 1) 0)
leading_by n x true e h more =
    let m = more (ltb-true x (2 ^ n) e) in
    record { digits = m.digits; all = omega (arith, m.all); below = m.below; least = m.least }
leading_by n x false e h more =
    let ge = ltb-false x (2 ^ n) e in
    record { digits = suc n; all = omega arith; below = h; least = omega (arith, pow-suc 2 n) }

leading_zeros : (n x : ℕ) → x < 2 ^ n → HasZeros n x (leading n x)
unfolding leading
leading_zeros zero x h = record { digits = 0; all = refl; below = h; least = omega arith }
leading_zeros (suc n) x h = leading_by n x (ltb x (2 ^ n)) refl h (leading_zeros n x)

pub leading_is : (n x : ℕ) → x < 2 ^ n → leading n x ≡ count_leading_zeros n x
leading_is n x h = let z = leading_zeros n x h in leading_unique n x (leading n x) z.digits z.all z.below z.least

pub leading_at_most : (n x : ℕ) → x < 2 ^ n → leading n x ≤ n
leading_at_most n x h = let z = leading_zeros n x h in omega (arith, z.all)

trailing_by : (d t u : ℕ) → t ≡ u → cond (eqb d 0) (t + 1) 0 ≡ under d u
trailing_by zero t u e = omega arith
trailing_by (suc d) t u e = grind (arith, nat_tests)

pub trailing_is : (n x : ℕ) → trailing n x ≡ count_trailing_zeros n x
unfolding trailing count_trailing_zeros
trailing_is zero x = refl
trailing_is (suc n) x = trailing_by (x % 2) (trailing n (x / 2)) (count_trailing_zeros n (x / 2)) (trailing_is n (x / 2))

half_below : (n x : ℕ) → x < 2 ^ suc n → x / 2 < 2 ^ n
half_below n x h = omega (arith, pow-suc 2 n)

pub ones_is : (n x : ℕ) → x < 2 ^ n → ones n x ≡ count_ones x
unfolding ones
ones_is zero x h = omega (arith, ones-le 0 x h)
ones_is (suc n) x h = ap (λ k. x % 2 + k) (ones_is n (x / 2) (half_below n x h)) ∙ sym (ones_step x)
