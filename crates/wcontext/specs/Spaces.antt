-- 2.5.1 The index spaces of a module, as they are gathered.
use Rattle.std.specs.Prelude.{◌≡◌, length}
use Rattle.wsyntax.specs.Modules.{ModuleShape}
use Rattle.wsyntax.specs.Validation.ModuleContext.{imported_functions, imported_globals, functions_of, tables_of, memories_of, globals_of}
use Rattle.wcontext.specs.declared.spaces.Spaces.{Spaces}

-- they are the index spaces of that module
pub record AreSpacesOf (m : ModuleShape) (s : Spaces) : Type 0 where
  pub functions : s.functions.items ≡ functions_of m
  pub imported_functions : s.imported_functions ≡ length (imported_functions m)
  pub tables : s.tables.items ≡ tables_of m
  pub memories : s.memories.items ≡ memories_of m
  pub globals : s.globals.items ≡ globals_of m
  pub imported_globals : s.imported_globals ≡ length (imported_globals m)
