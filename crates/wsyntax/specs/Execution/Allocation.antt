-- 4.5.3 Allocation and 4.5.4 instantiation: the store of a fresh instance.
use Rattle.std.specs.Prelude.{◌≡◌, ℕ, ◌+◌, ◌*◌, ◌≤◌, List, [], ◌∷◌, ◌++◌, length, take, drop, replicate, map, Option, Some, option_map, slice_get, true}
use Rattle.wsyntax.specs.Types.{FuncType, Limits}
use Rattle.wsyntax.specs.Validation.Context.{Context}
use Rattle.wsyntax.specs.Execution.Values.{Value}
use Rattle.wsyntax.specs.Execution.Store.{Memory, Entry, Unset, SetTo, Store, page, may_have}
use Rattle.wsyntax.specs.Execution.ConfigTyped.{ValuesTyped, AreBytes, Has, StoreTyped, global_types}

-- function indices for a table, or bytes for a memory, from an offset on
pub record Segment : Type 0 where
  pub offset : ℕ
  pub items : List ℕ

-- 4.5.4 what an instance is made of: the limits of its memory, the minimum of its table, the first values of its globals, its segments. Ours: offsets and first values are computed before
pub record Layout : Type 0 where
  pub memory : Option Limits
  pub table : Option ℕ
  pub globals : List Value
  pub elements : List Segment
  pub data' : List Segment

-- these items from an offset on
abbrev pub overwrite : {A : Type 0} → ℕ → List A → List A → List A
overwrite offset items xs = take offset xs ++ (items ++ drop (offset + length items) xs)

-- 4.5.4 the data segments in order
abbrev pub put_data : List Segment → List ℕ → List ℕ
put_data [] bytes = bytes
put_data (s ∷ ss) bytes = put_data ss (overwrite s.offset s.items bytes)

-- 4.5.4 the element segments in order
abbrev pub put_elements : List Segment → List Entry → List Entry
put_elements [] table = table
put_elements (s ∷ ss) table = put_elements ss (overwrite s.offset (map SetTo s.items) table)

-- 4.5.3 a memory of its minimum with zeros, and then the data segments
abbrev pub fresh_memory : ℕ → List Segment → Limits → Memory
fresh_memory pages segments l = record { bytes = put_data segments (replicate (l.min * page) 0); most = l.max; pages = pages }

-- 4.5.4 the fresh store: a memory of its minimum with zeros, a table of its minimum with unset entries, and then the segments in order. Ours: all segments are known to fit before one is written
abbrev pub fresh : ℕ → Layout → Store
fresh pages l = record {
  memory = option_map (fresh_memory pages l.data') l.memory;
  table = option_map (λ n. put_elements l.elements (replicate n Unset)) l.table;
  globals = l.globals;
}

-- every segment ends within n bytes or entries
abbrev pub AllWithin : ℕ → List Segment → Type 0
AllWithin n [] = Unit {0}
AllWithin n (s ∷ ss) = (s.offset + length s.items ≤ n) × AllWithin n ss

-- the bytes of every segment are bytes
abbrev pub AllBytes : List Segment → Type 0
AllBytes [] = Unit {0}
AllBytes (s ∷ ss) = AreBytes s.items × AllBytes ss

-- these are functions of the context
abbrev pub AllFunctions : Context → List ℕ → Type 0
AllFunctions C [] = Unit {0}
AllFunctions C (f ∷ fs) = ((t : FuncType) × (slice_get C.functions f ≡ Some t)) × AllFunctions C fs

-- and so are the entries of every segment
abbrev pub AllElements : Context → List Segment → Type 0
AllElements C [] = Unit {0}
AllElements C (s ∷ ss) = AllFunctions C s.items × AllElements C ss

-- 4.5.4 what the module rules and the refusals of an instance leave of a module
pub record LayoutTyped (C : Context) (pages : ℕ) (l : Layout) : Type 0 where
  pub memory : Has C.has_memory (λ x. (may_have (record { bytes = []; most = x.max; pages = pages }) x.min ≡ true) × AllWithin (x.min * page) l.data' × AllBytes l.data') l.memory
  pub table : Has C.has_table (λ n. AllElements C l.elements) l.table
  pub globals : ValuesTyped l.globals (global_types C.globals)

-- the fresh store of a typed layout is typed
abbrev pub FreshTyped : Type 0
FreshTyped = (C : Context) (pages : ℕ) (l : Layout) → LayoutTyped C pages l → StoreTyped C (fresh pages l)
