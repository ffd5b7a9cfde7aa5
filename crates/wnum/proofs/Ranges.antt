-- The operators on words give words.
use Rattle.std.proofs.Common.{◌≡◌, ℕ, zero, suc, ◌+◌, ◌-◌, ◌*◌, ◌%◌, ◌/◌, ◌^◌, ◌<◌, ◌≤◌, Bool, true, false, cond, ltb, eqb, Result, Ok, Err, refl, subst, arith}
use Rattle.std.proofs.Math.Nat.{div-le_self, mod-le}
use Rattle.std.proofs.Math.Pow.{pow_pos, pow_mono, shr_le, shr_lt}
use Rattle.std.specs.Int.Bits.{and_lt, or_lt, xor_lt}
use Rattle.std.specs.Int.Count.{ones-le, trailing_le}
use Rattle.std.specs.Prelude.{ℤ, pos, negsuc, int_div, int_rem}
use Rattle.wnum.specs.declared.trap.NumTrap.{NumTrap}
use Rattle.wnum.specs.declared.trap.NumTrap.TheVariants.{IntegerOverflow}
use Rattle.wnum.specs.Arithmetic.{Width, Width32, Width64, bits, Unary, Clz, Ctz, Popcnt, Binary, Add, Sub, Mul, DivS, DivU, RemS, RemU, And, Or, Xor, Shl, ShrS, ShrU, Rotl, Rotr, signed, unsigned, unary, binary, rotate_left}
use Rattle.wnum.specs.OperatorLaws.{OperatorsStayInRange}
use Rattle.wnum.proofs.Counts.{leading_at_most, trailing_is, ones_is}
use Rattle.wnum.proofs.Shifts.{rotated}

abbrev Word : Type 0
Word = Result ℕ NumTrap

abbrev ok : ℕ → Word
ok v = Ok v

-- One operand.

count_at_most : (n x : ℕ) (f : Unary) → x < 2 ^ n → unary n f x ≤ n
count_at_most n x Clz h = leading_at_most n x h
count_at_most n x Ctz h = omega (arith, trailing_is n x, trailing_le n x)
count_at_most n x Popcnt h = omega (arith, ones_is n x h, ones-le n x h)

one_below : (w : Width) (f : Unary) (x : ℕ) → x < 2 ^ bits w → unary (bits w) f x < 2 ^ bits w
one_below Width32 f x h = omega (arith, count_at_most 32 x f h)
one_below Width64 f x h = omega (arith, count_at_most 64 x f h)

-- Whole numbers.

unsigned_below : (n : ℕ) (z : ℤ) → unsigned n z < 2 ^ n
unsigned_below n (pos x) = omega (arith, pow_pos n)
unsigned_below n (negsuc x) = omega (arith, pow_pos n)

-- Two operands.

ok_below : (m v r : ℕ) → v < m → ok v ≡ ok r → r < m
ok_below m v r h e = let is : v ≡ r = cc in subst (λ a. a < m) is h

div_signed_below : (n r : ℕ) (least minus : Bool) (z : ℤ) → cond least (cond minus (Err IntegerOverflow) (ok (unsigned n z))) (ok (unsigned n z)) ≡ ok r → r < 2 ^ n
div_signed_below n r true true z e = absurd cc
div_signed_below n r true false z e = ok_below (2 ^ n) (unsigned n z) r (unsigned_below n z) e
div_signed_below n r false minus z e = ok_below (2 ^ n) (unsigned n z) r (unsigned_below n z) e

shifted_below : (n k x : ℕ) (positive : Bool) → x < 2 ^ n → k ≤ n → cond positive (x / 2 ^ k) (x / 2 ^ k + (2 ^ n - 2 ^ (n - k))) < 2 ^ n
shifted_below n k x true h le = omega (arith, shr_le x k)
shifted_below n k x false h le =
    let down : x / 2 ^ k < 2 ^ (n - k) = shr_lt (n - k) k (subst (λ m. x < 2 ^ m) (omega arith) h) in
    let high : 2 ^ (n - k) ≤ 2 ^ n = pow_mono (omega arith) in
    omega arith

up_below : (n k x : ℕ) → x * 2 ^ k % 2 ^ n < 2 ^ n
up_below n k x = omega (arith, pow_pos n)

rotated_below : (n k x : ℕ) → x < 2 ^ n → k < n → rotate_left n x k < 2 ^ n
rotated_below n zero x h lt =
    subst (λ a. a < 2 ^ n) (rotated n 0 0 x h lt (λ e. refl) (λ l. absurd (omega arith))) (or_lt n _ _ (up_below n 0 x) (omega (arith, shr_le x 0)))
rotated_below n (suc k) x h lt =
    subst (λ a. a < 2 ^ n) (rotated n (suc k) (n - suc k) x h lt (λ e. absurd (omega arith)) (λ l. refl)) (or_lt n _ _ (up_below n (suc k) x) (omega (arith, shr_le x (n - suc k))))

two_below : (n : ℕ) (f : Binary) (x y r : ℕ) → 0 < n → x < 2 ^ n → y < 2 ^ n → binary n f x y ≡ ok r → r < 2 ^ n
two_below n Add x y r p h k e = ok_below (2 ^ n) _ r (omega (arith, pow_pos n)) e
two_below n Sub x y r p h k e = ok_below (2 ^ n) _ r (omega (arith, pow_pos n)) e
two_below n Mul x y r p h k e = ok_below (2 ^ n) _ r (omega (arith, pow_pos n)) e
two_below n DivS x zero r p h k e = absurd cc
two_below n DivS x (suc y) r p h k e = div_signed_below n r (eqb x (2 ^ (n - 1))) (eqb (suc y) (2 ^ n - 1)) (int_div (signed n x) (signed n (suc y))) e
two_below n DivU x zero r p h k e = absurd cc
two_below n DivU x (suc y) r p h k e = ok_below (2 ^ n) _ r (omega (arith, div-le_self x (suc y))) e
two_below n RemS x zero r p h k e = absurd cc
two_below n RemS x (suc y) r p h k e = ok_below (2 ^ n) _ r (unsigned_below n (int_rem (signed n x) (signed n (suc y)))) e
two_below n RemU x zero r p h k e = absurd cc
two_below n RemU x (suc y) r p h k e = ok_below (2 ^ n) _ r (omega (arith, mod-le x (suc y))) e
two_below n And x y r p h k e = ok_below (2 ^ n) _ r (and_lt n x y h k) e
two_below n Or x y r p h k e = ok_below (2 ^ n) _ r (or_lt n x y h k) e
two_below n Xor x y r p h k e = ok_below (2 ^ n) _ r (xor_lt n x y h k) e
two_below n Shl x y r p h k e = ok_below (2 ^ n) _ r (up_below n (y % n) x) e
two_below n ShrS x y r p h k e = ok_below (2 ^ n) _ r (shifted_below n (y % n) x (ltb x (2 ^ (n - 1))) h (omega arith)) e
two_below n ShrU x y r p h k e = ok_below (2 ^ n) _ r (omega (arith, shr_le x (y % n))) e
two_below n Rotl x y r p h k e = ok_below (2 ^ n) _ r (rotated_below n (y % n) x h (omega arith)) e
two_below n Rotr x y r p h k e = ok_below (2 ^ n) _ r (rotated_below n ((n - y % n) % n) x h (omega arith)) e

two_below_at : (w : Width) (f : Binary) (x y r : ℕ) → x < 2 ^ bits w → y < 2 ^ bits w → binary (bits w) f x y ≡ ok r → r < 2 ^ bits w
two_below_at Width32 f x y r h k e = two_below 32 f x y r (omega arith) h k e
two_below_at Width64 f x y r h k e = two_below 64 f x y r (omega arith) h k e

pub stay_in_range : OperatorsStayInRange
stay_in_range = record { of_one = one_below; of_two = two_below_at; widened = λ n to x. unsigned_below to (signed n x) }
