-- What reading a text gives.
use Rattle.std.specs.Prelude.{◌≡◌, ◌≢◌, ℕ, ◌+◌, ◌-◌, ◌*◌, ◌^◌, ◌<◌, ◌≤◌, List, [], ◌∷◌, ◌++◌, length, slice_index, All, Bool, eqb, Option, Some, None}
use Rattle.std.specs.Int.{IsInRange}

-- a value with P that is written so, or none where no such value is
abbrev pub IsReading : {A : Type 0} → (A → Type 0) → (A → List ℕ) → List ℕ → Option A → Type 0
IsReading {A} P text bytes (Some a) = P a × (bytes ≡ text a)
IsReading {A} P text bytes None = (a : A) → P a → bytes ≢ text a

-- a digit stands first, and a zero alone
abbrev pub IsFrontPrinted : List ℕ → Type 0
IsFrontPrinted digits = (0 < length digits) × (slice_index digits 0 ≡ 48 → length digits ≡ 1)

-- the number with a digit after it; none where that is no digit, or where the number has no word
abbrev pub IsLonger : ℕ → ℕ → Option ℕ → Type 0
IsLonger n digit (Some longer) = IsInRange 48 57 digit × (longer ≡ n * 10 + (digit - 48)) × (longer < 2 ^ 64)
IsLonger n digit None = IsInRange 48 57 digit → 2 ^ 64 ≤ n * 10 + (digit - 48)

-- the byte is the mark
abbrev pub is_mark : ℕ → ℕ → Bool
is_mark mark b = eqb b mark

-- it is empty, or the mark stands first
abbrev pub StopsAt : ℕ → List ℕ → Type 0
StopsAt mark [] = Unit {0}
StopsAt mark (b ∷ bytes) = b ≡ mark

-- the bytes before the first mark, and the rest
pub record SplitsBefore (mark : ℕ) (text front rest : List ℕ) : Type 0 where
  pub joined : text ≡ front ++ rest
  pub free : All (λ b. b ≢ mark) front
  pub stops : StopsAt mark rest
