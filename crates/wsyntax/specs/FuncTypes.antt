-- 2.3.3 Function types as they are held and lent: the value types of all of them lie in one list.
use Rattle.std.specs.Prelude.{◌≤◌, ◌<◌, ◌^◌, List, length, map, slice_range, All}
use Rattle.wsyntax.specs.Types.{FuncType, ValType}
use Rattle.wsyntax.specs.declared.func_types.FuncType.{FuncType as LentFuncType}
use Rattle.wsyntax.specs.declared.func_types.TypeRange.{TypeRange}
use Rattle.wsyntax.specs.declared.func_types.FuncTypes.TheInside.{Inside}

-- 2.3.3 the function type that a lent one stands for
abbrev pub func_type_of : LentFuncType → FuncType
func_type_of t = record { params = t.params.now; results = t.results.now }

-- 2.3.3 each list of a lent function type has fewer than 2^32 types
pub record IsShort (t : LentFuncType) : Type 0 where
  pub params : length t.params.now < 2 ^ 32
  pub results : length t.results.now < 2 ^ 32

-- the function type that lies at a range of the list
abbrev pub type_in : List ValType → TypeRange → FuncType
type_in values r = record { params = slice_range values r.start r.middle; results = slice_range values r.middle r.end }

-- the range lies in the list
pub record IsWithin (values : List ValType) (r : TypeRange) : Type 0 where
  pub params : r.start ≤ r.middle
  pub results : r.middle ≤ r.end
  pub all : r.end ≤ length values

-- 2.3.3 the function types that a held list stands for, wherever they lie in memory
abbrev pub held_types : Inside → List FuncType
held_types a = map (type_in a.values.items) a.ranges.items

-- each range lies in the list
abbrev pub AreWithin : Inside → Type 0
AreWithin a = All (IsWithin a.values.items) a.ranges.items
