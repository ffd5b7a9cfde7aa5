-- Results are taken modulo 2^N to be words (`word`). This changes none of them: each is below 2^N already.
use Rattle.std.specs.Prelude.{◌≡◌, ℕ, ◌*◌, ◌/◌, ◌%◌, ◌^◌, ◌<◌, ◌≤◌, List, length, Some, Ok}
use Rattle.wnum.specs.Arithmetic.{Width, Width32, Width64, bits, Unary, Binary, unary, binary, extended}
use Rattle.wsyntax.specs.Validation.Typing.{type_at}
use Rattle.wsyntax.specs.Execution.Values.{number, word}
use Rattle.wsyntax.specs.Execution.Store.{Memory, page, read}
use Rattle.wsyntax.specs.Execution.ConfigTyped.{AreBytes, MemoryTyped}

-- the value of this width made of the number has the number in it
abbrev pub IsExact : Width → ℕ → Type 0
IsExact w n = number (type_at w) (word w n) ≡ Some n

-- results of operators on words, of loads without a sign and of memory.size are words before they are taken modulo 2^N
pub record ResultsAreExact : Type 0 where
  pub of_one : (w : Width) (f : Unary) (x : ℕ) → x < 2 ^ bits w → IsExact w (unary (bits w) f x)
  pub of_two : (w : Width) (f : Binary) (x y r : ℕ) → x < 2 ^ bits w → y < 2 ^ bits w → binary (bits w) f x y ≡ Ok r → IsExact w r
  pub extended_s : (x : ℕ) → IsExact Width64 (extended 32 64 x)
  pub extended_low : (w : Width) (n x : ℕ) → IsExact w (extended n (bits w) (x % 2 ^ n))
  pub extended_u : (x : ℕ) → x < 2 ^ 32 → IsExact Width64 x
  pub of_load : (w : Width) (bytes : List ℕ) (at width n : ℕ) → AreBytes bytes → 8 * width ≤ bits w → read bytes at width ≡ Some n → IsExact w n
  pub of_size : (m : Memory) → MemoryTyped m → IsExact Width32 (length m.bytes / page)
