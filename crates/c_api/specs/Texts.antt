-- How texts are handed out.
use Rattle.std.specs.Prelude.{◌≡◌, ◌⊎◌, ℕ, ◌<◌, ◌≤◌, List, ◌++◌, length, drop}

-- the text stands at the front of the buffer, and what lies after it is as it was
abbrev pub IsWritten : List ℕ → List ℕ → List ℕ → Type 0
IsWritten text old new = (length text ≤ length old) × (new ≡ text ++ drop (length text) old)

-- there is no room for it, and the buffer is as it was
abbrev pub Misses : List ℕ → List ℕ → List ℕ → Type 0
Misses text old new = (length old < length text) × (new ≡ old)

-- the text is written, and its length; or the buffer is short, and only the length is written
abbrev pub Hands : List ℕ → ℕ → List ℕ → List ℕ → ℕ → ℕ → Type 0
Hands text status old new now answered =
    (now ≡ length text) × (((answered ≡ status) × IsWritten text old new) ⊎ ((answered ≡ 75) × Misses text old new))

-- a buffer and a length are as they were
abbrev pub AreKept : List ℕ → List ℕ → ℕ → ℕ → Type 0
AreKept old new was now = (new ≡ old) × (now ≡ was)
