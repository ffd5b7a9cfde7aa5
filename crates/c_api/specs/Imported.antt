-- What a module imports, as fields and texts.
use Rattle.std.specs.Prelude.{◌≡◌, ℕ, List, slice_get, MatchOption}
use Rattle.wsyntax.specs.Types.{FuncType}
use Rattle.wsyntax.specs.Modules.{ImportShape, module_shape}
use Rattle.wsyntax.specs.declared.module.ImportKind.{ImportKind}
use Rattle.wsyntax.specs.declared.module.ImportKind.TheVariants.{Function, Table, Memory, Global}
use Rattle.accepted_module.specs.declared.accepted.Accepted.{Accepted as AcceptedModule}
use Rattle.c_api.specs.declared.imported.GateImport.{GateImport}
use Rattle.c_api.specs.Exported.{params_of, results_of}
use Rattle.c_api.specs.Texts.{AreKept, Hands}

-- 2.5.11 what the module imports, in the order in which it stands there
abbrev pub imports_of : AcceptedModule → List ImportShape
imports_of a = (module_shape a.«module»).imports

-- 2.5.11 of what is no function only the kind is told
abbrev pub plain : ℕ → GateImport
plain kind = record { kind = kind; params = 0; results = 0 }

-- 2.5.11 the fields of an import, where these are the types of the module
abbrev pub import_fields : List FuncType → ImportKind → GateImport
import_fields types (Function y) = record { kind = 0; params = params_of (slice_get types y); results = results_of (slice_get types y) }
import_fields types (Table t) = plain 1
import_fields types (Memory l) = plain 2
import_fields types (Global g) = plain 3

-- the fields of an import are written
abbrev pub TellsOf : AcceptedModule → GateImport → ℕ → ImportShape → Type 0
TellsOf a new answered i = (answered ≡ 0) × (new ≡ import_fields (module_shape a.«module»).types i.kind)

-- those of the import at that position; or there is none, and nothing is written
abbrev pub TellsImport : AcceptedModule → ℕ → GateImport → GateImport → ℕ → Type 0
TellsImport a position old new answered =
    MatchOption (slice_get (imports_of a) position) ((answered ≡ 4) × (new ≡ old)) (TellsOf a new answered)

-- a name of the import at that position is written, and its length, or the buffer is short; or there is none, and nothing is written
abbrev pub TellsWord : (ImportShape → List ℕ) → AcceptedModule → ℕ → List ℕ → List ℕ → ℕ → ℕ → ℕ → Type 0
TellsWord word a position old new was now answered =
    MatchOption (slice_get (imports_of a) position) ((answered ≡ 4) × AreKept old new was now)
    (λ i. Hands (word i) 0 old new now answered)

-- 2.5.11 the name of its module, and its own
abbrev pub TellsModuleName : AcceptedModule → ℕ → List ℕ → List ℕ → ℕ → ℕ → ℕ → Type 0
TellsModuleName = TellsWord (λ i. i.module_name)

abbrev pub TellsItemName : AcceptedModule → ℕ → List ℕ → List ℕ → ℕ → ℕ → ℕ → Type 0
TellsItemName = TellsWord (λ i. i.item_name)
