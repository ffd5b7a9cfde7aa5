-- Reading the front of bytes, when a function that reads is exact for a spelling, and the functions that read numbers (5.2.2).
use Rattle.std.specs.Prelude.{◌≡◌, ℕ, zero, suc, ◌^◌, ◌-◌, List, [], ◌∷◌, ◌++◌, Option, Some, None, nat_lt, int_le, int_lt, Bool, ◌&&◌, if◌then◌else◌}
use Rattle.std.specs.Prelude.{ℤ, pos, ◌-ℤ◌, neg_ℤ}
use Rattle.wnum.specs.Number.{groups, sign, most}

-- what stands at the front of the bytes, and the bytes after it
abbrev pub Read : Type 0 → Type 0
Read A = Option (A × List ℕ)

-- one step after another: none where the first gives none
infixl 10 ◌>>=◌
abbrev pub ◌>>=◌ : {A B : Type 0} → Option A → (A → Option B) → Option B
(Some x) >>= f = f x
None >>= f = None

-- 5.1 a function reads a spelling exactly: what it reads is spelled so, and what is spelled so it reads, whatever follows
pub record Reads {A : Type 0} (read : List ℕ → Read A) (spells : List ℕ → A → Type 0) : Type 0 where
  pub sound : (bytes : List ℕ) (a : A) (rest : List ℕ) → read bytes ≡ Some (a, rest) → (front : List ℕ) × spells front a × (bytes ≡ front ++ rest)
  pub complete : (front : List ℕ) (a : A) (rest : List ℕ) → spells front a → read (front ++ rest) ≡ Some (a, rest)

-- the front that is a number of at most n bytes: up to and with the first byte below 128
abbrev pub number_at : ℕ → List ℕ → Read (List ℕ)
number_at zero bytes = None
number_at (suc n) [] = None
number_at (suc n) (b ∷ bs) = if nat_lt b 128 then Some (b ∷ [], bs) else (do
  found ← number_at n bs
  Some (b ∷ found.0, found.1))

-- the sum of its groups, and what its sign lessens it by
abbrev pub sums_at : ℕ → List ℕ → Read (ℕ × ℕ)
sums_at n bytes = do
  found ← number_at n bytes
  Some ((groups found.0, sign found.0), found.1)

-- the value of such a front, where it is in range
abbrev pub ranged : {A : Type 0} → (ℕ → ℕ → A) → (A → Bool) → Read (ℕ × ℕ) → Read A
ranged value in_range read = read >>= λ x. if in_range (value x.0.0 x.0.1) then Some (value x.0.0 x.0.1, x.1) else None

-- what a sum and a sign stand for without the sign
abbrev pub unsigned_value : ℕ → ℕ → ℕ
unsigned_value sum sign = sum

-- what a sum and a sign stand for with the sign
abbrev pub signed_value : ℕ → ℕ → ℤ
signed_value sum sign = pos sum -ℤ pos sign

-- FitsUnsignedBits as a test
abbrev pub fits_unsigned_bits : ℕ → ℕ → Bool
fits_unsigned_bits N v = nat_lt v (2 ^ N)

-- FitsSignedBits as a test
abbrev pub fits_signed_bits : ℕ → ℤ → Bool
fits_signed_bits N v = int_le (neg_ℤ (pos (2 ^ (N - 1)))) v && int_lt v (pos (2 ^ (N - 1)))

-- 5.2.2 uN at the front of the bytes
unfoldable pub unsigned_at : ℕ → List ℕ → Read ℕ
unsigned_at N bytes = ranged unsigned_value (fits_unsigned_bits N) (sums_at (most N) bytes)

-- 5.2.2 sN at the front of the bytes
unfoldable pub signed_at : ℕ → List ℕ → Read ℤ
signed_at N bytes = ranged signed_value (fits_signed_bits N) (sums_at (most N) bytes)
