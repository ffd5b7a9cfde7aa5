-- A list of operands in which a long list of types has one entry.
use Rattle.std.specs.Prelude.{◌≡◌, ℕ, ◌+◌, ◌-◌, ◌^◌, ◌≤◌, Bool, true, false, List, [], ◌∷◌, ◌++◌, map, length, take, drop, reverse, Option, Some, None, slice_get}
use Rattle.wsyntax.specs.declared.ValType.{ValType}
use Rattle.wsyntax.specs.Types.{FuncType}
use Rattle.wcontext.specs.declared.lists.TypePrefix.{TypePrefix}
use Rattle.wcontext.specs.Lists.{prefix_of}
use Rattle.wcheck.specs.declared.entry.StackEntry.{StackEntry}
use Rattle.wcheck.specs.declared.entry.StackEntry.TheVariants.{I32, I64, F32, F64, Unknown, Run}
use Rattle.wcheck.specs.Heights.{type_of}

-- whether the entry is that of a run
abbrev pub is_several : StackEntry → Bool
is_several Run = true
is_several I32 = false
is_several I64 = false
is_several F32 = false
is_several F64 = false
is_several Unknown = false

-- the last n of some types, and those before them
abbrev pub last_types : ℕ → List ValType → List ValType
last_types n ts = drop (length ts - n) ts

abbrev pub types_before : ℕ → List ValType → List ValType
types_before n ts = take (length ts - n) ts

-- the run of the topmost entry, if it has one
abbrev pub run_at : StackEntry → List (List ValType) → Option (List ValType)
run_at Run rs = slice_get rs (length rs - 1)
run_at I32 rs = None
run_at I64 rs = None
run_at F32 rs = None
run_at F64 rs = None
run_at Unknown rs = None

-- the operands of a run. One with none would stand for one that is not known
abbrev pub of_run : List ValType → List (Option ValType)
of_run [] = None ∷ []
of_run (t ∷ ts) = Some t ∷ map Some ts

-- the operands of these entries with these runs, each topmost first
abbrev pub stretched : List StackEntry → List (List ValType) → List (Option ValType)
stretched [] rs = []
stretched (Run ∷ xs) [] = None ∷ stretched xs []
stretched (Run ∷ xs) (r ∷ rs) = reverse (of_run r) ++ stretched xs rs
stretched (I32 ∷ xs) rs = type_of I32 ∷ stretched xs rs
stretched (I64 ∷ xs) rs = type_of I64 ∷ stretched xs rs
stretched (F32 ∷ xs) rs = type_of F32 ∷ stretched xs rs
stretched (F64 ∷ xs) rs = type_of F64 ∷ stretched xs rs
stretched (Unknown ∷ xs) rs = type_of Unknown ∷ stretched xs rs

-- the same, each the lowest first
unfoldable pub types_in : List StackEntry → List (List ValType) → List (Option ValType)
types_in xs rs = reverse (stretched (reverse xs) (reverse rs))

-- there are `run_surplus` more operands than entries
pub record IsCounted (xs : List StackEntry) (rs : List (List ValType)) (run_surplus : ℕ) : Type 0 where
  pub count : length (types_in xs rs) ≡ length xs + run_surplus
  pub small : run_surplus ≤ 2 ^ 63

-- the operands of these entries with these runs, where these are the function types
abbrev pub items_of : List FuncType → List StackEntry → List TypePrefix → List (Option ValType)
items_of types xs runs = types_in xs (map (prefix_of types) runs)

-- they are counted, and the innermost frame begins among them
abbrev pub IsStanding : List FuncType → List StackEntry → List TypePrefix → ℕ → ℕ → Type 0
IsStanding types xs runs run_surplus base =
    IsCounted xs (map (prefix_of types) runs) run_surplus × (base ≤ length (items_of types xs runs))
