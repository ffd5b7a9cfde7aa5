-- The shift that copies the sign, and the rotations, by the operations on bits.
use Rattle.std.proofs.Common.{◌≡◌, ℕ, zero, suc, ◌+◌, ◌-◌, ◌*◌, ◌%◌, ◌/◌, ◌^◌, ◌<◌, ◌≤◌, Bool, true, false, cond, refl, sym, ap, subst, ◌∙◌, arith}
use Rattle.std.specs.Prelude.{ℤ, pos, negsuc}
use Rattle.std.proofs.Math.Nat.{add-mul, mod-eq_of_lt, mul-mod_left, div-one, div-eq_of_lt}
use Rattle.std.proofs.Math.Pow.{pow_pos, pow_mono, split, high, ones_split, shr_lt, mod-pow-add}
use Rattle.std.specs.Int.{int_shr}
use Rattle.std.specs.Int.Bits.{bit_or, or_self, or_shifted}
use Rattle.wnum.specs.Arithmetic.{rotate_left}

-- what is left of a complement of j + k bits where k are shifted out
complement_down : (j k x : ℕ) → x < 2 ^ (j + k) → (2 ^ (j + k) - suc x) / 2 ^ k ≡ 2 ^ j - suc (x / 2 ^ k)
complement_down j k x h =
    let q = x / 2 ^ k in
    let d : ℕ = 2 ^ j - suc q in
    let q_below : q < 2 ^ j = shr_lt j k h in
    let all : 2 ^ j - 1 ≡ d + q = omega arith in
    let products : (2 ^ j - 1) * 2 ^ k ≡ d * 2 ^ k + q * 2 ^ k = ap (λ a. a * 2 ^ k) all ∙ add-mul d q (2 ^ k) in
    let left : x % 2 ^ k < 2 ^ k = omega (arith, pow_pos k) in
    let parts : 2 ^ (j + k) - suc x ≡ d * 2 ^ k + (2 ^ k - 1 - x % 2 ^ k) = omega (arith, ones_split j k, split x k, products, pow_pos k) in
    ap (λ a. a / 2 ^ k) parts ∙ high d k (omega (arith, pow_pos k))

-- the same, for k of n bits, and complemented again
complement_again : (n k x : ℕ) → x < 2 ^ n → k ≤ n → 2 ^ n - suc ((2 ^ n - suc x) / 2 ^ k) ≡ x / 2 ^ k + (2 ^ n - 2 ^ (n - k))
complement_again n k x h le =
    let n_is : n - k + k ≡ n = omega arith in
    let below : x < 2 ^ (n - k + k) = subst (λ m. x < 2 ^ m) (sym n_is) h in
    let down : (2 ^ n - suc x) / 2 ^ k ≡ 2 ^ (n - k) - suc (x / 2 ^ k) = subst (λ m. (2 ^ m - suc x) / 2 ^ k ≡ 2 ^ (n - k) - suc (x / 2 ^ k)) n_is (complement_down (n - k) k x below) in
    let quotient : x / 2 ^ k < 2 ^ (n - k) = shr_lt (n - k) k below in
    let high_below : 2 ^ (n - k) ≤ 2 ^ n = pow_mono (omega arith) in
    omega arith

-- the shift of the signed number is the shift that copies the sign
pub shift_signed_is : (n k x : ℕ) (t : Bool) → x < 2 ^ n → k ≤ n → (of_z : ℤ → ℕ) → ((m : ℕ) → of_z (pos m) ≡ m) → ((m : ℕ) → of_z (negsuc m) ≡ 2 ^ n - suc m)
    → of_z (int_shr (cond t (pos x) (negsuc (2 ^ n - suc x))) k) ≡ cond t (x / 2 ^ k) (x / 2 ^ k + (2 ^ n - 2 ^ (n - k)))
shift_signed_is n k x true h le of_z at_pos at_neg = at_pos (x / 2 ^ k)
shift_signed_is n k x false h le of_z at_pos at_neg = at_neg ((2 ^ n - suc x) / 2 ^ k) ∙ complement_again n k x h le

-- the bits that are moved up, as a multiple of 2^k
moved_up : (j k x : ℕ) → x * 2 ^ k % 2 ^ (j + k) ≡ (x * 2 ^ k / 2 ^ k % 2 ^ j) * 2 ^ k
moved_up j k x = mod-pow-add (x * 2 ^ k) j k ∙ omega (arith, mul-mod_left x (2 ^ k))

-- The bits that are moved up by k and the bits from the top, moved down by j, do not meet. A rotation by 0 moves none down.
pub rotated : (n k j x : ℕ) → x < 2 ^ n → k < n → (k ≡ 0 → j ≡ 0) → (0 < k → j ≡ n - k) → bit_or (x * 2 ^ k % 2 ^ n) (x / 2 ^ j) ≡ rotate_left n x k
rotated n zero j x h lt none some =
    let j_is : j ≡ 0 = none refl in
    let same : x * 2 ^ 0 % 2 ^ n ≡ x = ap (λ a. a % 2 ^ n) (omega arith) ∙ mod-eq_of_lt h in
    let whole : x / 2 ^ j ≡ x = ap (λ e. x / 2 ^ e) j_is ∙ div-one x in
    let out : x / 2 ^ (n - 0) ≡ 0 = ap (λ e. x / 2 ^ e) (omega arith) ∙ div-eq_of_lt h in
    rw (same, whole, out, or_self x) (omega arith)
rotated n (suc k) j x h lt none some =
    let j_is : j ≡ n - suc k = some (omega arith) in
    let n_is : j + suc k ≡ n = omega arith in
    let kept : ℕ = x * 2 ^ suc k / 2 ^ suc k % 2 ^ j in
    let up : x * 2 ^ suc k % 2 ^ n ≡ kept * 2 ^ suc k = subst (λ m. x * 2 ^ suc k % 2 ^ m ≡ kept * 2 ^ suc k) n_is (moved_up j (suc k) x) in
    let top : x / 2 ^ j < 2 ^ suc k = shr_lt (suc k) j (subst (λ m. x < 2 ^ m) (omega arith) h) in
    ap (λ a. bit_or a (x / 2 ^ j)) up ∙ or_shifted kept (suc k) (x / 2 ^ j) top ∙ ap (λ a. a + x / 2 ^ j) (sym up) ∙ ap (λ e. x * 2 ^ suc k % 2 ^ n + x / 2 ^ e) j_is
