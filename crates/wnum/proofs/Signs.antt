-- Words as signed numbers.
use Rattle.std.proofs.Common.{◌≡◌, ℕ, ◌^◌, ◌<◌, arith}
use Rattle.std.proofs.lemmas.Int.{ints}
use Rattle.std.specs.Prelude.{ℤ, int_lt, int_le}
use Rattle.wnum.specs.Number.{FitsSignedBits}
use Rattle.wnum.specs.Arithmetic.{Width, Width32, Width64, bits, LtS, LeS, signed, unsigned, compare_by}
use Rattle.wnum.specs.OperatorLaws.{SignsInvert, ComparesSigned}

word_again : (w : Width) (x : ℕ) → x < 2 ^ bits w → unsigned (bits w) (signed (bits w) x) ≡ x
word_again Width32 x h = grind (arith, ints)
word_again Width64 x h = grind (arith, ints)

number_again : (w : Width) (z : ℤ) → FitsSignedBits (bits w) z → signed (bits w) (unsigned (bits w) z) ≡ z
number_again Width32 z h = grind (arith, ints)
number_again Width64 z h = grind (arith, ints)

pub signs_invert : SignsInvert
signs_invert = record { of_word = word_again; of_number = number_again }

lt_s : (w : Width) (x y : ℕ) → x < 2 ^ bits w → y < 2 ^ bits w → compare_by (bits w) LtS x y ≡ int_lt (signed (bits w) x) (signed (bits w) y)
lt_s Width32 x y h k = grind (arith, ints)
lt_s Width64 x y h k = grind (arith, ints)

le_s : (w : Width) (x y : ℕ) → x < 2 ^ bits w → y < 2 ^ bits w → compare_by (bits w) LeS x y ≡ int_le (signed (bits w) x) (signed (bits w) y)
le_s Width32 x y h k = grind (arith, ints)
le_s Width64 x y h k = grind (arith, ints)

pub compares_signed : ComparesSigned
compares_signed = record { lt_s = lt_s; gt_s = λ w x y h k. lt_s w y x k h; le_s = le_s; ge_s = λ w x y h k. le_s w y x k h }
