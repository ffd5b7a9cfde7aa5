-- How n indices are cut into pieces.
use Rattle.std.specs.Prelude.{ℕ, ◌+◌, ◌*◌, ◌-◌, ◌/◌, ◌<◌, ◌≤◌, min}

-- what a plan may have
abbrev pub InRange : ℕ → ℕ → Type 0
InRange workers piece = (0 < workers) × (workers ≤ 64) × (0 < piece) × (piece ≤ 65535)

-- how many pieces of this size the indices below n make
abbrev pub pieces : ℕ → ℕ → ℕ
pieces n size = (n + size - 1) / size

-- the first index of the piece at a position, and the index after its last
abbrev pub first_of : ℕ → ℕ → ℕ
first_of size position = position * size

-- where the piece at this position ends, which the indices below n cut short
abbrev pub end_of : ℕ → ℕ → ℕ → ℕ
end_of n size position = min (position * size + size) n
