-- 2.5.10 Exports as they are held.
use Rattle.std.specs.Prelude.{ℕ, List, Option, option_map, slice_get}
use Rattle.wsyntax.specs.declared.module.Export.{Export}

-- the name of the export at that position
abbrev pub name_at : List Export → ℕ → Option (List ℕ)
name_at es position = option_map (λ e. e.name.now) (slice_get es position)
