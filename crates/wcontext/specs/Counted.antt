-- 2.5.1 How much the index spaces of a module hold, and 3.4 what is asked by it.
-- It counts each index space, and has the types of the imported globals and whether the start function is plain. By it segments are
-- valid (3.4.5, 3.4.6).
use Rattle.std.specs.Prelude.{◌≡◌, ◌↔◌, ℕ, ◌<◌, length, IsTrue, All}
use Rattle.wsyntax.specs.Modules.{ModuleShape, DataShape, ElementShape}
use Rattle.wsyntax.specs.Validation.ModuleContext.{imported_globals, functions_of, tables_of, memories_of, globals_of}
use Rattle.wsyntax.specs.Validation.Rules.{ConstantOf, StartsPlainly}
use Rattle.wsyntax.specs.declared.ValType.TheVariants.{I32}
use Rattle.wsyntax.specs.declared.ExportKind.{ExportKind}
use Rattle.wsyntax.specs.declared.ExportKind.TheVariants.{Function, Table, Memory, Global}
use Rattle.wcontext.specs.declared.space_sizes.SpaceSizes.{SpaceSizes}

-- they are the counts of that module
pub record AreCountsOf (m : ModuleShape) (c : SpaceSizes) : Type 0 where
  pub functions : c.functions ≡ length (functions_of m)
  pub tables : c.tables ≡ length (tables_of m)
  pub memories : c.memories ≡ length (memories_of m)
  pub globals : c.globals ≡ length (globals_of m)
  pub constants : c.constant_globals.items ≡ imported_globals m
  pub start : IsTrue c.starts_plainly ↔ StartsPlainly m

-- the number of items in the space of that kind
abbrev pub counted : SpaceSizes → ExportKind → ℕ
counted c Function = c.functions
counted c Table = c.tables
counted c Memory = c.memories
counted c Global = c.globals

-- 3.4.5 the segment's table exists, its offset is a constant expression of type i32, its functions exist
abbrev pub IsElementValid : SpaceSizes → ElementShape → Type 0
IsElementValid c s = (s.table < c.tables) × ConstantOf c.constant_globals.items I32 s.offset × All (λ f. f < c.functions) s.functions

-- 3.4.6 the segment's memory exists, its offset is a constant expression of type i32
abbrev pub IsSegmentValid : SpaceSizes → DataShape → Type 0
IsSegmentValid c s = (s.memory < c.memories) × ConstantOf c.constant_globals.items I32 s.offset
