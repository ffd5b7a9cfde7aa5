-- 4.3.2 Integer operations: arithmetic on whole numbers modulo 2^N. A word of N bits is a number below 2^N.
use Rattle.std.specs.Prelude.{ℕ, zero, suc, ◌+◌, ◌-◌, ◌*◌, ◌/◌, ◌%◌, ◌^◌, Bool, not, Result, Ok, Err, if◌then◌else◌, nat_eq, nat_lt, nat_le, bit_and, bit_or, bit_xor, ℤ, pos, negsuc, int_div, int_rem}
use Rattle.wnum.specs.declared.trap.NumTrap.{NumTrap}
use Rattle.wnum.specs.declared.trap.NumTrap.TheVariants.{DivideByZero, IntegerOverflow}

-- 2.4.1 inn: the width of an integer type
pub data Width : Type 0 where
  Width32 Width64 : Width

-- 2.4.1 iunop: iN.clz, iN.ctz, iN.popcnt
pub data Unary : Type 0 where
  Clz Ctz Popcnt : Unary

-- 2.4.1 ibinop: iN.add to iN.rotr, in the order of the opcodes
pub data Binary : Type 0 where
  Add Sub Mul DivS DivU RemS RemU And Or Xor Shl ShrS ShrU Rotl Rotr : Binary

-- 2.4.1 irelop: iN.eq to iN.ge_u, in the order of the opcodes
pub data Compare : Type 0 where
  Eq Ne LtS LtU GtS GtU LeS LeU GeS GeU : Compare

-- 2.4.1 N, the number of bits
abbrev pub bits : Width → ℕ
bits Width32 = 32
bits Width64 = 64

-- 4.3.2 signed: a word of n bits read with its sign
abbrev pub signed : ℕ → ℕ → ℤ
signed n x = if nat_lt x (2 ^ (n - 1)) then pos x else negsuc (2 ^ n - 1 - x)

-- 4.3.2 the inverse of signed: the word of n bits that is a whole number modulo 2^n. Ours: it takes every whole number
abbrev pub unsigned : ℕ → ℤ → ℕ
unsigned n (pos x) = x % 2 ^ n
unsigned n (negsuc x) = 2 ^ n - 1 - x % 2 ^ n

-- 4.3.4 extend_s: the word of `to` bits that has the signed value of a word of n bits
abbrev pub extended : ℕ → ℕ → ℕ → ℕ
extended n to x = unsigned to (signed n x)

-- 4.3.2 iclz: zeros above the highest one among the lowest n bits; n where there is no one
unfoldable pub leading : ℕ → ℕ → ℕ
leading zero x = 0
leading (suc n) x = if nat_lt x (2 ^ n) then leading n x + 1 else 0

-- 4.3.2 ictz: zeros below the lowest one among the lowest n bits; n where there is no one
unfoldable pub trailing : ℕ → ℕ → ℕ
trailing zero x = 0
trailing (suc n) x = if nat_eq (x % 2) 0 then trailing n (x / 2) + 1 else 0

-- 4.3.2 ipopcnt: ones among the lowest n bits
unfoldable pub ones : ℕ → ℕ → ℕ
ones zero x = 0
ones (suc n) x = x % 2 + ones n (x / 2)

-- 4.3.2 iclz, ictz, ipopcnt. Ours: they count by recursion on the bits
abbrev pub unary : ℕ → Unary → ℕ → ℕ
unary n Clz x = leading n x
unary n Ctz x = trailing n x
unary n Popcnt x = ones n x

-- 4.3.2 ishl: the word moved up by k bits
abbrev pub shift_left : ℕ → ℕ → ℕ → ℕ
shift_left n x k = x * 2 ^ k % 2 ^ n

-- 4.3.2 ishr_s: the word moved down by k bits, its k top bits a copy of the sign
abbrev pub shift_signed : ℕ → ℕ → ℕ → ℕ
shift_signed n x k = if nat_lt x (2 ^ (n - 1)) then x / 2 ^ k else x / 2 ^ k + (2 ^ n - 2 ^ (n - k))

-- 4.3.2 irotl: the word moved up by k bits, the k bits that fall off at the top moved to the bottom
abbrev pub rotate_left : ℕ → ℕ → ℕ → ℕ
rotate_left n x k = shift_left n x k + x / 2 ^ (n - k)

-- a quotient or a remainder; undefined in the standard, so a trap, where the divisor is 0
abbrev pub by_divisor : ℕ → Result ℕ NumTrap → Result ℕ NumTrap
by_divisor zero r = Err DivideByZero
by_divisor (suc y) r = r

-- 4.3.2 idiv_s: the quotient rounded toward zero; undefined, so a trap, where it is 2^(n-1), of the least number by -1
abbrev pub div_signed : ℕ → ℕ → ℕ → Result ℕ NumTrap
div_signed n x y = if nat_eq x (2 ^ (n - 1)) then (if nat_eq y (2 ^ n - 1) then Err IntegerOverflow else Ok (unsigned n (int_div (signed n x) (signed n y)))) else Ok (unsigned n (int_div (signed n x) (signed n y)))

-- 4.3.2 iadd to irotr; x is the operand that was pushed first, and counts of shifts and rotations are taken modulo n. Ours: where the standard has no result, a trap with a name
abbrev pub binary : ℕ → Binary → ℕ → ℕ → Result ℕ NumTrap
binary n Add x y = Ok ((x + y) % 2 ^ n)
binary n Sub x y = Ok ((x + (2 ^ n - y)) % 2 ^ n)
binary n Mul x y = Ok (x * y % 2 ^ n)
binary n DivS x y = by_divisor y (div_signed n x y)
binary n DivU x y = by_divisor y (Ok (x / y))
binary n RemS x y = by_divisor y (Ok (unsigned n (int_rem (signed n x) (signed n y))))
binary n RemU x y = by_divisor y (Ok (x % y))
binary n And x y = Ok (bit_and x y)
binary n Or x y = Ok (bit_or x y)
binary n Xor x y = Ok (bit_xor x y)
binary n Shl x y = Ok (shift_left n x (y % n))
binary n ShrS x y = Ok (shift_signed n x (y % n))
binary n ShrU x y = Ok (x / 2 ^ (y % n))
binary n Rotl x y = Ok (rotate_left n x (y % n))
binary n Rotr x y = Ok (rotate_left n x ((n - y % n) % n))

-- where the sign counts, words are compared as if moved up by half the range: -2^(n-1) to 0, and 2^(n-1) - 1 to 2^n - 1
abbrev pub moved : ℕ → ℕ → ℕ
moved n x = (x + 2 ^ (n - 1)) % 2 ^ n

-- 4.3.2 ieq to ige_u. Ours: signed words are compared after both were moved by half the range; the law ComparesSigned says that this compares the signed numbers
abbrev pub compare_by : ℕ → Compare → ℕ → ℕ → Bool
compare_by n Eq x y = nat_eq x y
compare_by n Ne x y = not (nat_eq x y)
compare_by n LtS x y = nat_lt (moved n x) (moved n y)
compare_by n LtU x y = nat_lt x y
compare_by n GtS x y = nat_lt (moved n y) (moved n x)
compare_by n GtU x y = nat_lt y x
compare_by n LeS x y = nat_le (moved n x) (moved n y)
compare_by n LeU x y = nat_le x y
compare_by n GeS x y = nat_le (moved n y) (moved n x)
compare_by n GeU x y = nat_le y x
