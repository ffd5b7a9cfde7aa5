-- What a context is made from is as it is held.
use Rattle.std.proofs.Common.{◌≡◌, ◌<◌, ◌≤◌, List, length, ap, arith, length-append}
use Rattle.std.specs.List.{All}
use Rattle.std.proofs.lemmas.List.Elements.{All-append}
use Rattle.wsyntax.specs.Types.{FuncType}
use Rattle.wsyntax.specs.Modules.{ModuleShape}
use Rattle.wsyntax.specs.Validation.ModuleContext.{imported_functions}
use Rattle.wsyntax.specs.Validation.Rules.{ImportsTyped, FunctionsTyped}
use Rattle.wcontext.specs.Spaces.{AreSpacesOf}
use Rattle.wcontext.specs.declared.spaces.Spaces.{Spaces}

-- each function has a type
pub functions_typed : (m : ModuleShape) (s : Spaces) (types : List FuncType) → AreSpacesOf m s → ImportsTyped m → FunctionsTyped m → types ≡ m.types → All (λ y. y < length types) s.functions.items
functions_typed m s types spaces imports functions same = rw (same, spaces.functions) (All-append (λ y. y < length m.types) (imported_functions m) m.functions imports functions)

-- the imported functions are among them
pub imported_within : (m : ModuleShape) (s : Spaces) → AreSpacesOf m s → s.imported_functions ≤ length s.functions.items
imported_within m s spaces = omega (arith, spaces.imported_functions, ap length spaces.functions, length-append (imported_functions m) m.functions)
