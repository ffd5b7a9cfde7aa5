-- Bytes that are zero.
use Rattle.std.specs.Prelude.{◌≡◌, ℕ, ◌-◌, ◌*◌, ◌/◌, ◌≤◌, List, length, Bool, false, slice_index, slice_index_or}

-- every byte is zero
abbrev pub AreZero : List ℕ → Type 0
AreZero bytes = (k : ℕ) → slice_index bytes k ≡ 0

-- no block is marked
abbrev pub AreUnmarked : List Bool → Type 0
AreUnmarked marks = (b : ℕ) → slice_index_or marks b false ≡ false

-- Each block of 4,096 bytes has a mark. A store marks the block of its first byte, and has at most 7 bytes after that. So a
-- byte is zero where neither its own block is marked nor the block of the address 7 before it.
abbrev pub AreZeroUnmarked : List ℕ → List Bool → Type 0
AreZeroUnmarked bytes marks = (k : ℕ) → slice_index_or marks (k / 4096) false ≡ false → slice_index_or marks ((k - 7) / 4096) false ≡ false → slice_index bytes k ≡ 0

-- every byte is zero, no block is marked, and each has a mark
pub record IsClean (bytes : List ℕ) (marks : List Bool) : Type 0 where
  pub zero : AreZero bytes
  pub unmarked : AreUnmarked marks
  pub covered : length bytes ≤ length marks * 4096
