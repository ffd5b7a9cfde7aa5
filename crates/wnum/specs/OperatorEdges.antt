-- The integer operators (4.3.2) at their edges.
use Rattle.std.specs.Prelude.{◌≡◌, ◌+◌, ◌-◌, ◌%◌, ◌^◌, true, false, Ok, Err}
use Rattle.wnum.specs.declared.trap.NumTrap.TheVariants.{DivideByZero, IntegerOverflow}
use Rattle.wnum.specs.Arithmetic.{Clz, Ctz, Popcnt, Add, Sub, Mul, DivS, DivU, RemS, RemU, And, Or, Xor, Shl, ShrS, ShrU, Rotl, Rotr, Eq, Ne, LtS, LtU, GtS, GtU, LeS, LeU, GeS, GeU, unary, binary, compare_by, extended}

-- zeros and ones
pub record CountEdges : Type 0 where
  pub clz_of_none : unary 32 Clz 0 ≡ 32
  pub clz_of_low : unary 64 Clz 1 ≡ 63
  pub clz_of_top : unary 32 Clz (2 ^ 31) ≡ 0
  pub ctz_of_none : unary 32 Ctz 0 ≡ 32
  pub ctz_of_middle : unary 32 Ctz 40 ≡ 3
  pub ctz_of_top : unary 64 Ctz (2 ^ 63) ≡ 63
  pub popcnt_of_byte : unary 32 Popcnt 255 ≡ 8
  pub popcnt_of_all : unary 64 Popcnt (2 ^ 64 - 1) ≡ 64

-- sums, products, quotients, remainders
pub record ArithmeticEdges : Type 0 where
  pub add_wraps : binary 32 Add (2 ^ 32 - 1) 1 ≡ Ok 0
  pub sub_wraps : binary 32 Sub 0 1 ≡ Ok (2 ^ 32 - 1)
  pub mul_wraps : binary 64 Mul (2 ^ 64 - 1) (2 ^ 64 - 1) ≡ Ok 1
  pub div_s_toward_zero : binary 32 DivS (2 ^ 32 - 7) 2 ≡ Ok (2 ^ 32 - 3)
  pub div_s_by_zero : binary 32 DivS 1 0 ≡ Err DivideByZero
  pub div_s_least_by_minus_one : binary 32 DivS (2 ^ 31) (2 ^ 32 - 1) ≡ Err IntegerOverflow
  pub div_s_long_least_by_minus_one : binary 64 DivS (2 ^ 63) (2 ^ 64 - 1) ≡ Err IntegerOverflow
  pub div_u_of_most : binary 32 DivU (2 ^ 32 - 1) 2 ≡ Ok (2 ^ 31 - 1)
  pub div_u_by_zero : binary 64 DivU 0 0 ≡ Err DivideByZero
  pub rem_s_sign_of_dividend : binary 32 RemS (2 ^ 32 - 7) 2 ≡ Ok (2 ^ 32 - 1)
  pub rem_s_sign_of_divisor : binary 32 RemS 7 (2 ^ 32 - 2) ≡ Ok 1
  pub rem_s_by_zero : binary 32 RemS 1 0 ≡ Err DivideByZero
  pub rem_s_least_by_minus_one : binary 32 RemS (2 ^ 31) (2 ^ 32 - 1) ≡ Ok 0
  pub rem_u_of_most : binary 32 RemU (2 ^ 32 - 1) 10 ≡ Ok 5
  pub rem_u_by_zero : binary 32 RemU 1 0 ≡ Err DivideByZero

-- bits
pub record BitEdges : Type 0 where
  pub ands : binary 32 And 12 10 ≡ Ok 8
  pub ors : binary 32 Or 12 10 ≡ Ok 14
  pub xors : binary 64 Xor 12 10 ≡ Ok 6
  pub shl_drops : binary 32 Shl 3 31 ≡ Ok (2 ^ 31)
  pub shl_by_all : binary 32 Shl 5 32 ≡ Ok 5
  pub shr_s_copies_sign : binary 32 ShrS (2 ^ 31) 33 ≡ Ok (2 ^ 31 + 2 ^ 30)
  pub shr_s_by_all : binary 32 ShrS (2 ^ 31) 32 ≡ Ok (2 ^ 31)
  pub shr_s_without_sign : binary 64 ShrS 5 1 ≡ Ok 2
  pub shr_u_clears : binary 32 ShrU (2 ^ 31) 33 ≡ Ok (2 ^ 30)
  pub rotl_over_the_top : binary 32 Rotl (2 ^ 31 + 1) 1 ≡ Ok 3
  pub rotl_by_none : binary 32 Rotl (2 ^ 31 + 1) 0 ≡ Ok (2 ^ 31 + 1)
  pub rotr_over_the_bottom : binary 32 Rotr 1 1 ≡ Ok (2 ^ 31)
  pub rotr_by_all : binary 64 Rotr 5 64 ≡ Ok 5

-- -1 and 0 with and without the sign, and equal words
pub record ComparisonEdges : Type 0 where
  pub eq : compare_by 32 Eq 7 7 ≡ true
  pub ne : compare_by 32 Ne 7 7 ≡ false
  pub lt_s : compare_by 32 LtS (2 ^ 32 - 1) 0 ≡ true
  pub lt_u : compare_by 32 LtU (2 ^ 32 - 1) 0 ≡ false
  pub gt_s : compare_by 64 GtS (2 ^ 64 - 1) 0 ≡ false
  pub gt_u : compare_by 64 GtU (2 ^ 64 - 1) 0 ≡ true
  pub le_s : compare_by 32 LeS (2 ^ 31) (2 ^ 31 - 1) ≡ true
  pub le_u : compare_by 32 LeU (2 ^ 31) (2 ^ 31 - 1) ≡ false
  pub ge_s : compare_by 64 GeS (2 ^ 63) (2 ^ 63 - 1) ≡ false
  pub ge_u : compare_by 64 GeU (2 ^ 63) (2 ^ 63 - 1) ≡ true
  pub lt_s_of_equal : compare_by 32 LtS 7 7 ≡ false
  pub ge_s_of_equal : compare_by 32 GeS 7 7 ≡ true

-- a wider word with the same signed number
pub record ExtensionEdges : Type 0 where
  pub of_minus_one : extended 32 64 (2 ^ 32 - 1) ≡ 2 ^ 64 - 1
  pub of_least : extended 32 64 (2 ^ 31) ≡ 2 ^ 64 - 2 ^ 31
  pub of_most : extended 32 64 (2 ^ 31 - 1) ≡ 2 ^ 31 - 1

-- the lowest bits, read with their sign
pub record LowExtensionEdges : Type 0 where
  pub extend8_s_of_most : extended 8 32 (127 % 2 ^ 8) ≡ 127
  pub extend8_s_of_least : extended 8 32 (128 % 2 ^ 8) ≡ 2 ^ 32 - 128
  pub extend8_s_of_minus_one : extended 8 32 (255 % 2 ^ 8) ≡ 2 ^ 32 - 1
  pub extend8_s_drops : extended 8 32 (256 % 2 ^ 8) ≡ 0
  pub extend16_s_of_least : extended 16 32 (32768 % 2 ^ 16) ≡ 2 ^ 32 - 32768
  pub extend16_s_drops : extended 16 32 ((2 ^ 31 + 32767) % 2 ^ 16) ≡ 32767
  pub extend8_s_long_of_least : extended 8 64 (128 % 2 ^ 8) ≡ 2 ^ 64 - 128
  pub extend8_s_long_drops : extended 8 64 (256 % 2 ^ 8) ≡ 0
  pub extend16_s_long_of_least : extended 16 64 (32768 % 2 ^ 16) ≡ 2 ^ 64 - 32768
  pub extend32_s_of_most : extended 32 64 ((2 ^ 31 - 1) % 2 ^ 32) ≡ 2 ^ 31 - 1
  pub extend32_s_of_least : extended 32 64 (2147483648 % 2 ^ 32) ≡ 2 ^ 64 - 2147483648
  pub extend32_s_of_minus_one : extended 32 64 (4294967295 % 2 ^ 32) ≡ 2 ^ 64 - 1
  pub extend32_s_drops : extended 32 64 (4294967296 % 2 ^ 32) ≡ 0
