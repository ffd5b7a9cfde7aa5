-- The range of fuel.
use Rattle.std.specs.Prelude.{ℕ, nat_le, Option, Some, None, if◌then◌else◌}
use Rattle.wsyntax.specs.Texts.Answer.{fuel_limit}

-- the limit, where it is in range
abbrev pub limit_in_range : ℕ → Option ℕ
limit_in_range limit = if nat_le limit fuel_limit then Some limit else None
