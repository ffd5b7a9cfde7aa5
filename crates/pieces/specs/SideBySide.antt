-- Calls side by side.
use Rattle.std.specs.Prelude.{◌≡◌, ◌<◌, ℕ, List, length, slice_index_or}

-- R holds of each item before and after
pub record EachBecomes {T : Type 0} (R : T → T → Type 0) (xs ys : List T) : Type 0 where
  pub len : length ys ≡ length xs
  pub each : (i : ℕ) (d : T) → i < length xs → R (slice_index_or xs i d) (slice_index_or ys i d)
