-- What holds of the integer operators (4.3.2) on all words.
use Rattle.std.specs.Prelude.{◌≡◌, ℕ, ◌^◌, ◌<◌, ℤ, int_lt, int_le, Ok}
use Rattle.wnum.specs.Number.{FitsSignedBits}
use Rattle.wnum.specs.Arithmetic.{Width, bits, Unary, Binary, LtS, GtS, LeS, GeS, signed, unsigned, extended, unary, binary, compare_by}

-- 4.3.2 the result of an operator on words is a word
pub record OperatorsStayInRange : Type 0 where
  pub of_one : (w : Width) (f : Unary) (x : ℕ) → x < 2 ^ bits w → unary (bits w) f x < 2 ^ bits w
  pub of_two : (w : Width) (f : Binary) (x y r : ℕ) → x < 2 ^ bits w → y < 2 ^ bits w → binary (bits w) f x y ≡ Ok r → r < 2 ^ bits w
  pub widened : (n to x : ℕ) → extended n to x < 2 ^ to

-- 4.3.2 signed and unsigned undo one another
pub record SignsInvert : Type 0 where
  pub of_word : (w : Width) (x : ℕ) → x < 2 ^ bits w → unsigned (bits w) (signed (bits w) x) ≡ x
  pub of_number : (w : Width) (z : ℤ) → FitsSignedBits (bits w) z → signed (bits w) (unsigned (bits w) z) ≡ z

-- 4.3.2 the comparisons with a sign compare the signed numbers
pub record ComparesSigned : Type 0 where
  pub lt_s : (w : Width) (x y : ℕ) → x < 2 ^ bits w → y < 2 ^ bits w → compare_by (bits w) LtS x y ≡ int_lt (signed (bits w) x) (signed (bits w) y)
  pub gt_s : (w : Width) (x y : ℕ) → x < 2 ^ bits w → y < 2 ^ bits w → compare_by (bits w) GtS x y ≡ int_lt (signed (bits w) y) (signed (bits w) x)
  pub le_s : (w : Width) (x y : ℕ) → x < 2 ^ bits w → y < 2 ^ bits w → compare_by (bits w) LeS x y ≡ int_le (signed (bits w) x) (signed (bits w) y)
  pub ge_s : (w : Width) (x y : ℕ) → x < 2 ^ bits w → y < 2 ^ bits w → compare_by (bits w) GeS x y ≡ int_le (signed (bits w) y) (signed (bits w) x)
