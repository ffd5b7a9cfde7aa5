-- 6.4 Types as words.
use Rattle.std.specs.Prelude.{ℕ, List, [], ◌∷◌, ◌++◌, length, take, flat_map, nat_lt, codes, if◌then◌else◌}
use Rattle.wsyntax.specs.Types.{FuncType}
use Rattle.wsyntax.specs.declared.types.ValType.{ValType}
use Rattle.wsyntax.specs.declared.types.ValType.TheVariants.{I32, I64, F32, F64}
use Rattle.wsyntax.specs.declared.types.GlobalType.{GlobalType}

-- 6.4.1 the name of a value type
abbrev pub type_word : ValType → List ℕ
type_word I32 = codes "i32"
type_word I64 = codes "i64"
type_word F32 = codes "f32"
type_word F64 = codes "f64"

-- a type after others
abbrev pub others_text : ValType → List ℕ
others_text t = codes " " ++ type_word t

-- types with blanks between them
abbrev pub shown_text : List ValType → List ℕ
shown_text [] = []
shown_text (t ∷ ts) = type_word t ++ flat_map others_text ts

-- 2.3.2 a list of types between brackets, of which no more than 16 are shown, and two dots where there are more
abbrev pub types_text : List ValType → List ℕ
types_text ts = if nat_lt 16 (length ts) then codes "[" ++ (shown_text (take 16 ts) ++ codes " ..]") else codes "[" ++ (shown_text ts ++ codes "]")

-- 2.3.3 the types of parameters and of results
abbrev pub lists_text : List ValType → List ValType → List ℕ
lists_text params results = types_text params ++ (codes " -> " ++ types_text results)

-- 2.3.3 a function type
abbrev pub func_type_text : FuncType → List ℕ
func_type_text t = lists_text t.params t.results

-- 2.3.7 a global type: what the global holds, and whether it may be set
abbrev pub global_type_text : GlobalType → List ℕ
global_type_text g = if g.mutable then type_word g.val_type ++ codes " mut" else type_word g.val_type
