-- Bytes are the digits of a number that is printed.
use Rattle.std.proofs.Common.{◌≡◌, ℕ, zero, suc, ◌+◌, ◌*◌, ◌-◌, ◌^◌, ◌<◌, ◌≤◌, List, length, get_or, take, Some, None, sym, ap, ◌∙◌, subst, decimal, arith}
use Rattle.std.specs.Char.{digit_value}
use Rattle.std.specs.Int.{IsInRange}
use Rattle.std.specs.Str.Parse.{AllDigits, digits_value}
use Rattle.std.proofs.lemmas.List.{take_all}
use Rattle.std.proofs.lemmas.Fmt.{decimal_digit, decimal_nonempty, first_decimal, digits_decimal, digits_value-decimal, decimal-digits_value}
use Rattle.std.proofs.lemmas.Int.Digits.{digits_more, digits_value_more}
use Rattle.std.proofs.lemmas.Str.{digit_value_digit}
use Rattle.batch_text.specs.Reading.{IsFrontPrinted, IsLonger}
use Rattle.std.proofs.lemmas.Str.Parse.{IsNumeralModel, numerals_by_value, tells_digits, digit_at, digits_value-take-le}

own : IsNumeralModel (AllDigits 10) (digits_value 10)
own = numerals_by_value (AllDigits 10) tells_digits

-- there is one
pub some_digit : (bytes : List ℕ) (a : ℕ) → a < 2 ^ 64 → bytes ≡ decimal a → 0 < length bytes
some_digit bytes a h e = rw e (decimal_nonempty a h)

-- a zero in front is the only one
pub front_zero : (bytes : List ℕ) (a : ℕ) → a < 2 ^ 64 → bytes ≡ decimal a → get_or bytes 0 0 ≡ 48 → length bytes ≡ 1
front_zero bytes zero h e z = ap length e ∙ ap length (decimal_digit 0 (omega arith))
front_zero bytes (suc a) h e z = let f = first_decimal (suc a) (omega arith) h in absurd (omega (arith, ap (λ l. get_or l 0 0) e))

-- each of them is a digit
pub each_digit : (bytes : List ℕ) (a i : ℕ) → a < 2 ^ 64 → bytes ≡ decimal a → i < length bytes → IsInRange 48 57 (get_or bytes i 0)
each_digit bytes a i h e l = digit_at bytes i (subst (AllDigits 10) (sym e) (digits_decimal own a h)) l

-- the number of the first ones is no greater
pub front_below : (bytes : List ℕ) (a i : ℕ) → a < 2 ^ 64 → bytes ≡ decimal a → digits_value 10 (take i bytes) < 2 ^ 64
front_below bytes a i h e =
    let v : digits_value 10 bytes ≡ a = ap (digits_value 10) e ∙ digits_value-decimal own a h in
    omega (arith, digits_value-take-le 10 bytes i (omega arith))

-- one digit more
pub digit_more : (bytes : List ℕ) (i d : ℕ) → i < length bytes → d ≡ get_or bytes i 0 → IsInRange 48 57 d
    → digits_value 10 (take (i + 1) bytes) ≡ digits_value 10 (take i bytes) * 10 + (d - 48)
digit_more bytes i d l e r =
    let v = digit_value_digit d r in
    omega (arith, digits_value_more 10 bytes i l, ap digit_value e)

pub digits_and_more : (bytes : List ℕ) (i d : ℕ) → i < length bytes → d ≡ get_or bytes i 0 → IsInRange 48 57 d → AllDigits 10 (take i bytes) → AllDigits 10 (take (i + 1) bytes)
digits_and_more bytes i d l e r all =
    let v = digit_value_digit d r in
    digits_more 10 bytes i l all (omega (arith, ap digit_value e))

-- digits without a needless zero are those of their number
pub printed : (bytes : List ℕ) → AllDigits 10 bytes → 0 < length bytes → (get_or bytes 0 0 ≡ 48 → length bytes ≡ 1) → digits_value 10 bytes < 2 ^ 64 → bytes ≡ decimal (digits_value 10 bytes)
printed bytes all some lone small = sym (decimal-digits_value own bytes all some lone small)

-- there is no such number where the front is not as printed
pub none_by_front : (bytes : List ℕ) → (IsFrontPrinted bytes → ⊥) → (a : ℕ) → a < 2 ^ 64 → bytes ≡ decimal a → ⊥
none_by_front bytes refused a h e = refused (some_digit bytes a h e, front_zero bytes a h e)

-- nor where a byte makes the number no longer
pub none_by_digit : (bytes : List ℕ) (i n d : ℕ) → i < length bytes → d ≡ get_or bytes i 0 → n ≡ digits_value 10 (take i bytes) → IsLonger n d None → (a : ℕ) → a < 2 ^ 64 → bytes ≡ decimal a → ⊥
none_by_digit bytes i n d l at v none a h e =
    let r : IsInRange 48 57 d = subst (IsInRange 48 57) (sym at) (each_digit bytes a i h e l) in
    omega (arith, none r, digit_more bytes i d l at r, front_below bytes a (i + 1) h e)

-- the number of the digits so far
abbrev pub IsReadTo : List ℕ → ℕ → ℕ → Type 0
IsReadTo bytes i n = AllDigits 10 (take i bytes) × (n ≡ digits_value 10 (take i bytes)) × (n < 2 ^ 64)

-- with one digit more
pub read_more : (bytes : List ℕ) (i n d longer : ℕ) → i < length bytes → d ≡ get_or bytes i 0 → IsReadTo bytes i n → IsLonger n d (Some longer) → IsReadTo bytes (i + 1) longer
read_more bytes i n d longer l at (all, v, b) (r, e, small) = (digits_and_more bytes i d l at r all, omega (arith, digit_more bytes i d l at r), small)

-- all is read
pub read_all : (bytes : List ℕ) (i n : ℕ) → length bytes ≤ i → IsFrontPrinted bytes → IsReadTo bytes i n → (n < 2 ^ 64) × (bytes ≡ decimal n)
read_all bytes i n l (some, lone) (all, v, small) =
    let whole : take i bytes ≡ bytes = take_all i bytes l in
    let same : n ≡ digits_value 10 bytes = v ∙ ap (digits_value 10) whole in
    (small, printed bytes (subst (AllDigits 10) whole all) some lone (omega arith) ∙ ap decimal (sym same))
