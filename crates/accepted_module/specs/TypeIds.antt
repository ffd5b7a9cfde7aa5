-- Ids of types, by which equal types are known.
-- Two types have one id exactly where they are the same.
use Rattle.std.specs.Prelude.{◌≡◌, ◌↔◌, ◌<◌, ℕ, IsTrue, List, Option, Some, None, length, map, slice_get, All}
use Rattle.std.specs.Cmp.Lexicographic.{slice_cmp}
use Rattle.std.specs.Ordering.{nat_cmp, ordering_then}
use Rattle.std.specs.declared.cmp.Ordering.{Ordering}
use Rattle.wsyntax.specs.declared.ValType.{ValType}
use Rattle.wsyntax.specs.declared.ValType.TheVariants.{I32, I64, F32, F64}
use Rattle.wsyntax.specs.Types.{FuncType, same_func_type}
use Rattle.wsyntax.specs.Validation.ModuleContext.{type_at}

-- of each type an id below the count of types; two are equal exactly where the types are the same
pub record AreTypeIds (types : List FuncType) (type_ids : List ℕ) : Type 0 where
  pub count : length type_ids ≡ length types
  pub below : All (λ n. n < length types) type_ids
  pub same : (y z : ℕ) (s t : FuncType) → slice_get types y ≡ Some s → slice_get types z ≡ Some t → (slice_get type_ids y ≡ slice_get type_ids z) ↔ IsTrue (same_func_type s t)

-- the id of the type of that index, if there is an index
abbrev pub function_type_id : List ℕ → Option ℕ → Option ℕ
function_type_id type_ids None = None
function_type_id type_ids (Some y) = slice_get type_ids y

-- How they are found.

-- the position of a value type among the four
abbrev pub rank : ValType → ℕ
rank I32 = 0
rank I64 = 1
rank F32 = 2
rank F64 = 3

-- the order of lists: by the first value types that differ, and else the shorter first
abbrev pub list_cmp : List ValType → List ValType → Ordering
list_cmp ts us = slice_cmp nat_cmp (map rank ts) (map rank us)

-- the order of function types: by their parameters, and then by their results
abbrev pub func_type_cmp : FuncType → FuncType → Ordering
func_type_cmp s t = ordering_then (list_cmp s.params t.params) (list_cmp s.results t.results)

-- the order of the types of two indices
abbrev pub index_cmp : List FuncType → ℕ → ℕ → Ordering
index_cmp types y z = func_type_cmp (type_at types y) (type_at types z)
