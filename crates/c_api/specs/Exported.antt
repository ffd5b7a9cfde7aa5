-- What a module exports, as fields and texts.
use Rattle.std.specs.Prelude.{◌≡◌, ◌⊎◌, ℕ, ◌<◌, List, length, map, Option, Some, None, slice_get, Contains, IsSome, MatchOption}
use Rattle.wsyntax.specs.Types.{FuncType}
use Rattle.wsyntax.specs.declared.ValType.{ValType}
use Rattle.wsyntax.specs.declared.ValType.TheVariants.{I32, I64, F32, F64}
use Rattle.wsyntax.specs.Modules.{ExportShape, module_shape}
use Rattle.wsyntax.specs.Texts.Answer.{IsMissing}
use Rattle.wsyntax.specs.declared.module.ExportKind.{ExportKind}
use Rattle.wsyntax.specs.declared.module.ExportKind.TheVariants.{Function, Table, Memory, Global}
use Rattle.accepted_module.specs.declared.accepted.Accepted.{Accepted as AcceptedModule}
use Rattle.c_api.specs.declared.exported.GateExport.{GateExport}
use Rattle.c_api.specs.Texts.{AreKept, Hands, IsWritten}

-- 2.5.10 what the module exports, in the order in which it stands there
abbrev pub exports_of : AcceptedModule → List ExportShape
exports_of a = (module_shape a.«module»).exports

-- 2.5.1 the types of its functions, imported ones first
abbrev pub functions_of : AcceptedModule → List FuncType
functions_of a = a.context.context.functions

-- 2.5.10 the code of a kind
abbrev pub kind_code : ExportKind → ℕ
kind_code Function = 0
kind_code Table = 1
kind_code Memory = 2
kind_code Global = 3

-- 2.5.3 the type of what is exported, where it is a function
abbrev pub function_type : List FuncType → ExportKind → ℕ → Option FuncType
function_type functions Function f = slice_get functions f
function_type functions Table x = None
function_type functions Memory x = None
function_type functions Global x = None

-- 2.3.3 how many parameters there are, and how many results; none of what is no function
abbrev pub params_of : Option FuncType → ℕ
params_of None = 0
params_of (Some t) = length t.params

abbrev pub results_of : Option FuncType → ℕ
results_of None = 0
results_of (Some t) = length t.results

-- the fields of what is exported, where these are the types of the functions
abbrev pub export_fields : List FuncType → ExportKind → ℕ → GateExport
export_fields functions kind index = record {
  kind = kind_code kind;
  index = index;
  params = params_of (function_type functions kind index);
  results = results_of (function_type functions kind index);
}

-- 3.4.10 what is exported has a type, where it is a function
abbrev pub IsTyped : List FuncType → ExportKind → ℕ → Type 0
IsTyped functions Function f = IsSome (slice_get functions f)
IsTyped functions Table x = Unit {0}
IsTyped functions Memory x = Unit {0}
IsTyped functions Global x = Unit {0}

-- the fields of an export are written, and it has a type, where it is a function
abbrev pub TellsOf : AcceptedModule → GateExport → ℕ → ExportShape → Type 0
TellsOf a new answered e = (answered ≡ 0) × (new ≡ export_fields (functions_of a) e.kind e.index) × IsTyped (functions_of a) e.kind e.index

-- there is none, and nothing is written
abbrev pub LeavesExport : GateExport → GateExport → ℕ → Type 0
LeavesExport old new answered = (answered ≡ 4) × (new ≡ old)

-- the fields of the export at that position are written; or there is none
abbrev pub TellsExport : AcceptedModule → ℕ → GateExport → GateExport → ℕ → Type 0
TellsExport a position old new answered =
    MatchOption (slice_get (exports_of a) position) (LeavesExport old new answered) (TellsOf a new answered)

-- the fields of the export of that name are written; or there is none
abbrev pub FindsExport : AcceptedModule → List ℕ → GateExport → GateExport → ℕ → Type 0
FindsExport a name old new answered =
    ((e : ExportShape) × Contains (exports_of a) e × (e.item_name ≡ name) × TellsOf a new answered e)
    ⊎ (IsMissing (module_shape a.«module») name × LeavesExport old new answered)

-- the name of the export at that position is written, and its length, or the buffer is short; or there is none, and nothing is written
abbrev pub TellsName : AcceptedModule → ℕ → List ℕ → List ℕ → ℕ → ℕ → ℕ → Type 0
TellsName a position old new was now answered =
    MatchOption (slice_get (exports_of a) position) ((answered ≡ 4) × AreKept old new was now)
    (λ e. Hands e.item_name 0 old new now answered)

-- 5.3.1 the byte of a value type
abbrev pub type_byte : ValType → ℕ
type_byte I32 = 0x7F
type_byte I64 = 0x7E
type_byte F32 = 0x7D
type_byte F64 = 0x7C

-- the bytes of the types of a function are written; or one of the buffers is short, and nothing is written
abbrev pub HandsTypes : List ℕ → List ℕ → List ℕ → List ℕ → ℕ → FuncType → Type 0
HandsTypes params params' results results' answered t =
    ((answered ≡ 0) × IsWritten (map type_byte t.params) params params' × IsWritten (map type_byte t.results) results results')
    ⊎ ((answered ≡ 75) × ((length params < length t.params) ⊎ (length results < length t.results)) × (params' ≡ params) × (results' ≡ results))

-- those of the function of that index; or there is none, and nothing is written
abbrev pub TellsTypes : AcceptedModule → ℕ → List ℕ → List ℕ → List ℕ → List ℕ → ℕ → Type 0
TellsTypes a f params params' results results' answered =
    MatchOption (slice_get (functions_of a) f) ((answered ≡ 4) × (params' ≡ params) × (results' ≡ results))
    (HandsTypes params params' results results' answered)
