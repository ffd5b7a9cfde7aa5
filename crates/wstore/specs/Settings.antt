-- The limits of a call, and their ranges.
-- There are settings of three numbers exactly where each is in its range.
use Rattle.std.specs.Prelude.{ℕ, ◌≤◌, nat_le, Bool, ◌&&◌, Option, Some, None, if◌then◌else◌}
use Rattle.wsyntax.specs.Texts.Answer.{Limits, fuel_limit, frames_limit, pages_limit}

-- fuel up to 1,000,000,000, frames from 1 to 4,096, pages up to 1,024
pub record AreSettings (fuel frames pages : ℕ) : Type 0 where
  pub fuel' : fuel ≤ fuel_limit
  pub some_frame : 1 ≤ frames
  pub frames' : frames ≤ frames_limit
  pub pages' : pages ≤ pages_limit

-- limits of these numbers
abbrev pub limits : ℕ → ℕ → ℕ → Limits
limits fuel frames pages = record { fuel = fuel; frames = frames; pages = pages }

-- the test of the same ranges
abbrev pub are_in_range : ℕ → ℕ → ℕ → Bool
are_in_range fuel frames pages = nat_le fuel fuel_limit && nat_le 1 frames && nat_le frames frames_limit && nat_le pages pages_limit

-- the limits, where they are in range
abbrev pub limits_in_range : ℕ → ℕ → ℕ → Option Limits
limits_in_range fuel frames pages = if are_in_range fuel frames pages then Some (limits fuel frames pages) else None
