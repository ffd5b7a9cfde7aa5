-- What a module says of a function: its type, and the name of its first export.
use Rattle.std.specs.Prelude.{ℕ, Bool, true, false, List, [], ◌∷◌, Option, Some, None, ◌&&◌, ◌==◌, if◌then◌else◌}
use Rattle.wsyntax.specs.declared.module.ExportKind.{ExportKind}
use Rattle.wsyntax.specs.declared.module.ExportKind.TheVariants.{Function, Table, Memory, Global}
use Rattle.wsyntax.specs.Modules.{ExportShape}
use Rattle.wsyntax.specs.Types.{FuncType}
use Rattle.explanation.specs.declared.explanation.FunctionSignature.{FunctionSignature}

-- 2.3.3 the type that a signature says
abbrev pub type_told : FunctionSignature → FuncType
type_told s = record { params = s.params.items; results = s.results.items }

abbrev pub is_function : ExportKind → Bool
is_function Function = true
is_function Table = false
is_function Memory = false
is_function Global = false

-- 2.5.10 the name of the first export of the function of that index
abbrev pub first_name : ℕ → List ExportShape → Option (List ℕ)
first_name f [] = None
first_name f (e ∷ es) = if is_function e.kind && e.index == f then Some e.item_name else first_name f es
