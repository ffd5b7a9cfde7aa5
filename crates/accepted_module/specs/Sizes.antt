-- 4.5.4 What is asked of the sizes of a module.
use Rattle.std.specs.Prelude.{ℕ, ◌<◌, ◌^◌, length, option_map, unwrap_or}
use Rattle.wsyntax.specs.Modules.{ModuleShape}
use Rattle.wsyntax.specs.Execution.Start.{layout_of}

-- 5.1.3 a module that is spelled has fewer segments of each kind than 2^32, as every vector does
pub record HasFewSegments (m : ModuleShape) : Type 0 where
  pub elements : length m.elements < 2 ^ 32
  pub segments : length m.segments < 2 ^ 32

-- the minimum of the table, 0 where there is none
abbrev pub table_size : ModuleShape → ℕ
table_size m = unwrap_or (layout_of m).table 0

-- the minimum of the memory in pages, 0 where there is none
abbrev pub memory_pages : ModuleShape → ℕ
memory_pages m = unwrap_or (option_map (λ l. l.min) (layout_of m).memory) 0
