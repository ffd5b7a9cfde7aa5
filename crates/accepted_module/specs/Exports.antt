-- The exports of a module, by their names.
use Rattle.std.specs.Prelude.{ℕ, List, [], Option, Some, None, slice_get, Contains}
use Rattle.std.specs.Ordering.{nat_cmp}
use Rattle.std.specs.Cmp.Lexicographic.{slice_cmp}
use Rattle.std.specs.List.Sorted.{IsSortedByKey}
use Rattle.wsyntax.specs.declared.module.Export.{Export}
use Rattle.wsyntax.specs.declared.module.ExportKind.{ExportKind}
use Rattle.wsyntax.specs.Modules.{ModuleShape}

-- 2.5.10 what the module exports under that name: an item of that kind, by its index
abbrev pub IsExported : ModuleShape → List ℕ → ExportKind → ℕ → Type 0
IsExported m name kind index = Contains m.exports (record { item_name = name; kind = kind; index = index })

-- the name of an export, empty where there is none
abbrev pub name_of : Option Export → List ℕ
name_of None = []
name_of (Some e) = e.name.now

-- the name of the export at that position, empty where there is none
abbrev pub name_at : List Export → ℕ → List ℕ
name_at exports position = name_of (slice_get exports position)

-- the positions of exports stand in the order of their names, byte by byte
abbrev pub AreAscending : List Export → List ℕ → Type 0
AreAscending exports positions = IsSortedByKey (name_at exports) (slice_cmp nat_cmp) positions
