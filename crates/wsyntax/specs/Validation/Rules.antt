-- 3.2 and 3.4 The rules that a module keeps, the bodies of its functions aside, in the order in which they are looked at.
use Rattle.std.specs.Prelude.{◌≡◌, ◌≢◌, ℕ, zero, suc, ◌<◌, ◌≤◌, List, [], ◌∷◌, Some, false, length, slice_get, slice_index_or, All, AllPairs}
use Rattle.std.specs.Option.{ForSome}
use Rattle.wsyntax.specs.Types.{ValType, I32, FuncType, Limits, GlobalType}
use Rattle.wsyntax.specs.Instructions.{Token, Do, End, Const, GlobalGet}
use Rattle.wsyntax.specs.Modules.{ModuleShape, ElementShape, DataShape}
use Rattle.wsyntax.specs.Validation.ModuleContext.{imported_functions, imported_globals, functions_of, tables_of, memories_of, globals_of, empty_type}
use Rattle.wsyntax.specs.declared.module.ExportKind.{ExportKind}
use Rattle.wsyntax.specs.declared.module.ExportKind.TheVariants.{Function, Table, Memory, Global}

-- Types and limits.

-- rule 1 is not asked: function types have any number of results, as in Core 2.0. The other rules keep their numbers
abbrev pub NotAsked : ModuleShape → Type 0
NotAsked m = Unit {0}

-- rule 2 (3.4.9): the type of each imported function exists
abbrev pub ImportsTyped : ModuleShape → Type 0
ImportsTyped m = All (λ y. y < length m.types) (imported_functions m)

-- rule 3 (3.4.1): the type of each defined function exists
abbrev pub FunctionsTyped : ModuleShape → Type 0
FunctionsTyped m = All (λ y. y < length m.types) m.functions

-- 3.2.1 the minimum is at most the maximum, where there is one
abbrev pub InOrder : Limits → Type 0
InOrder l = ForSome l.max (λ most. l.min ≤ most)

-- 3.2.1 limits within a range
abbrev pub WithinRange : ℕ → Limits → Type 0
WithinRange range l = (l.min ≤ range) × ForSome l.max (λ most. most ≤ range) × InOrder l

-- rule 4 (3.2.3): the limits of each table, imported or defined, are in order; their range is that of every u32
abbrev pub TablesLimited : ModuleShape → Type 0
TablesLimited m = All (λ t. InOrder t.limits) (tables_of m)

-- 3.2.4 the most pages that the type of a memory may say
abbrev pub page_range : ℕ
page_range = 65536

-- rule 5 (3.2.4): the limits of each memory, imported or defined, are within 65,536 pages
abbrev pub MemoriesLimited : ModuleShape → Type 0
MemoriesLimited m = All (WithinRange page_range) (memories_of m)

-- rule 6 (3.4.10): there is at most one table, imported ones counted
abbrev pub OneTable : ModuleShape → Type 0
OneTable m = length (tables_of m) ≤ 1

-- rule 7 (3.4.10): there is at most one memory, imported ones counted
abbrev pub OneMemory : ModuleShape → Type 0
OneMemory m = length (memories_of m) ≤ 1

-- Constant expressions.

-- 3.3.7.2 a constant expression of type t, under these imported globals: one t.const, or one global.get of an imported immutable global of type t. Ours: the offsets of segments read imported globals alone, too
pub data ConstantOf (globals : List GlobalType) (t : ValType) : List Token → Type 0 where
  one_const : (n : ℕ) → ConstantOf globals t (Do (Const t n) ∷ End ∷ [])
  one_get : (x : ℕ) → slice_get globals x ≡ Some record { val_type = t; mutable = false } → ConstantOf globals t (Do (GlobalGet x) ∷ End ∷ [])

-- rule 8 (3.4.4): each global's first value is a constant expression of its type
abbrev pub GlobalsConstant : ModuleShape → Type 0
GlobalsConstant m = All (λ g. ConstantOf (imported_globals m) g.global_type.val_type g.init) m.globals

-- Exports.

-- the number of items in the space of that kind
abbrev pub count_of : ModuleShape → ExportKind → ℕ
count_of m Function = length (functions_of m)
count_of m Table = length (tables_of m)
count_of m Memory = length (memories_of m)
count_of m Global = length (globals_of m)

-- rule 9 (3.4.8): each exported index exists in its space
abbrev pub ExportsExist : ModuleShape → Type 0
ExportsExist m = All (λ e. e.index < count_of m e.kind) m.exports

-- rule 10 (3.4.10): export names are distinct
abbrev pub ExportsDistinct : ModuleShape → Type 0
ExportsDistinct m = AllPairs (λ a b. a.item_name ≢ b.item_name) m.exports

-- Start function and segments.

-- the function exists and has that type
abbrev pub HasType : ModuleShape → FuncType → ℕ → Type 0
HasType m t f = (y : ℕ) × (slice_get (functions_of m) f ≡ Some y) × (slice_get m.types y ≡ Some t)

-- rule 11 (3.4.7): the start function exists and has type [] -> []
abbrev pub StartsPlainly : ModuleShape → Type 0
StartsPlainly m = ForSome m.start (HasType m empty_type)

-- 3.4.5 the segment's table exists, its offset is a constant expression of type i32, its functions exist
pub record ElementValid (m : ModuleShape) (segment : ElementShape) : Type 0 where
  pub in_table : segment.table < length (tables_of m)
  pub constant : ConstantOf (imported_globals m) I32 segment.offset
  pub functions : All (λ f. f < length (functions_of m)) segment.functions

-- rule 12 (3.4.5): each element segment is valid
abbrev pub ElementsValid : ModuleShape → Type 0
ElementsValid m = All (ElementValid m) m.elements

-- 3.4.6 the segment's memory exists, its offset is a constant expression of type i32
pub record DataValid (m : ModuleShape) (segment : DataShape) : Type 0 where
  pub in_memory : segment.memory < length (memories_of m)
  pub constant : ConstantOf (imported_globals m) I32 segment.offset

-- rule 13 (3.4.6): each data segment is valid
abbrev pub SegmentsValid : ModuleShape → Type 0
SegmentsValid m = All (DataValid m) m.segments

-- The rules by their numbers.

-- the rules in order, the first of which is rule 1
abbrev pub rules : List (ModuleShape → Type 0)
rules =
    NotAsked ∷ ImportsTyped ∷ FunctionsTyped ∷ TablesLimited ∷ MemoriesLimited ∷ OneTable ∷ OneMemory ∷ GlobalsConstant ∷ ExportsExist ∷ ExportsDistinct
    ∷ StartsPlainly ∷ ElementsValid ∷ SegmentsValid ∷ []

-- the module keeps rule k, if there is a rule of that number
abbrev pub Keeps : ModuleShape → ℕ → Type 0
Keeps m zero = Unit {0}
Keeps m (suc i) = slice_index_or rules i (λ n. Unit {0}) m

-- rule k is broken
abbrev pub Broken : ModuleShape → ℕ → Type 0
Broken m k = Keeps m k → ⊥

-- rule k is broken, and those before it hold
pub record LeastBroken (m : ModuleShape) (k : ℕ) : Type 0 where
  pub broken : Broken m k
  pub before : (j : ℕ) → j < k → Keeps m j

-- no rule is broken
abbrev pub NoneBroken : ModuleShape → Type 0
NoneBroken m = (k : ℕ) → Keeps m k
