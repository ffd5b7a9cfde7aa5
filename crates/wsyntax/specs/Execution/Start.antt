-- 4.5.4 Instantiation of a decoded module without imports: what is refused before a store is made, and the instance that is made.
use Rattle.std.specs.Prelude.{◌≡◌, ℕ, suc, ◌+◌, ◌*◌, List, [], ◌∷◌, Bool, true, false, ◌&&◌, ◌||◌, Option, Some, None, length, map, option_map, unwrap_or, nat_lt, if◌then◌else◌}
use Rattle.wsyntax.specs.Types.{ValType, I32, I64, F32, F64, FuncType}
use Rattle.wsyntax.specs.Instructions.{flat_body, BlockType, Empty, Value, Index, NumOp, FloatOp, Op, MemoryLoad, MemoryStore, Const, Numeric, Token, Do, OpenBlock, OpenLoop, OpenIf, Else, End}
use Rattle.wsyntax.specs.Modules.{ModuleShape, BodyShape, GlobalShape, ElementShape, DataShape}
use Rattle.wsyntax.specs.Validation.ModuleContext.{declared, type_at}
use Rattle.wsyntax.specs.Execution.Values.{Value as Held, V32, value_in}
use Rattle.wsyntax.specs.Execution.Store.{Function, Module, Store, page}
use Rattle.wsyntax.specs.Execution.Allocation.{Segment, Layout, fresh}
use Rattle.wsyntax.specs.declared.module.LocalRun.{LocalRun}

-- Where floats stand: a module that mentions f32 or f64 is not run.

-- 2.3.1 whether a value type is f32 or f64
abbrev pub is_float : ValType → Bool
is_float I32 = false
is_float I64 = false
is_float F32 = true
is_float F64 = true

-- one of these passes the test
abbrev pub any : {A : Type 0} → (A → Bool) → List A → Bool
any test [] = false
any test (x ∷ xs) = test x || any test xs

-- in a function type
abbrev pub type_has_floats : FuncType → Bool
type_has_floats t = any is_float t.params || any is_float t.results

-- in a block type
abbrev pub block_has_floats : BlockType → Bool
block_has_floats Empty = false
block_has_floats (Value t) = is_float t
block_has_floats (Index y) = false

-- a float operator
abbrev pub is_float_operator : NumOp → Bool
is_float_operator (FloatOp f) = true
is_float_operator _ = false

-- a float instruction
abbrev pub is_float_op : Op → Bool
is_float_op (Const t n) = is_float t
is_float_op (Numeric f) = is_float_operator f
is_float_op (MemoryLoad a) = is_float a.of_type
is_float_op (MemoryStore a) = is_float a.of_type
is_float_op _ = false

-- in a token
abbrev pub token_has_floats : Token → Bool
token_has_floats (Do i) = is_float_op i
token_has_floats (OpenBlock t) = block_has_floats t
token_has_floats (OpenLoop t) = block_has_floats t
token_has_floats (OpenIf t) = block_has_floats t
token_has_floats Else = false
token_has_floats End = false

-- a run of no locals declares none
abbrev pub run_has_floats : LocalRun → Bool
run_has_floats r = nat_lt 0 r.count && is_float r.val_type

-- in a body
abbrev pub body_has_floats : BodyShape → Bool
body_has_floats b = any run_has_floats b.runs || any token_has_floats b.code

-- whether a module mentions f32 or f64: in a function type, a global's type, a declared local, a block type or an instruction of any expression
abbrev pub has_floats : ModuleShape → List BodyShape → Bool
has_floats m bodies =
    any type_has_floats m.types
    || any (λ g. is_float g.global_type.val_type || any token_has_floats g.init) m.globals
    || any (λ e. any token_has_floats e.offset) m.elements
    || any (λ d. any token_has_floats d.offset) m.segments
    || any body_has_floats bodies

-- What an instance is made of.

-- 4.5.4 the number of a constant expression `i32.const n`, which is what is left where nothing is imported
abbrev pub constant_in : List Token → ℕ
constant_in (Do (Const t n) ∷ End ∷ []) = n
constant_in _ = 0

-- 4.5.4 the first value of a global
abbrev pub first_value : GlobalShape → Held
first_value g = unwrap_or (value_in g.global_type.val_type (constant_in g.init)) (V32 0)

-- 4.5.4 an element segment with its offset
abbrev pub element_segment : ElementShape → Segment
element_segment e = record { offset = constant_in e.offset; items = e.functions }

-- 4.5.4 a data segment with its offset
abbrev pub data_segment : DataShape → Segment
data_segment d = record { offset = constant_in d.offset; items = d.bytes }

-- the first of a list
abbrev pub first : {A : Type 0} → List A → Option A
first [] = None
first (x ∷ xs) = Some x

-- 4.5.4 limits of the memory, minimum of the table, first values of the globals, segments. Ours: of modules without imports, where every constant expression is a constant
abbrev pub layout_of : ModuleShape → Layout
layout_of m = record {
  memory = first m.memories;
  table = option_map (λ t. t.limits.min) (first m.tables);
  globals = map first_value m.globals;
  elements = map element_segment m.elements;
  data' = map data_segment m.segments;
}

-- Refusals.

-- why no instance is made, in the order in which it is asked: imports, floats, the table's limit, the memory's limit, the first element segment outside, the first data segment outside
pub data StartRefusal : Type 0 where
  HasImports HasFloats TableLimit MemoryLimit : StartRefusal
  ElementOutside DataOutside : ℕ → StartRefusal

-- the most entries of a table that an instance may have
abbrev pub table_limit : ℕ
table_limit = 65536

-- the index of the first segment that does not end within `size`; the indices begin with k
abbrev pub first_outside : ℕ → ℕ → List Segment → Option ℕ
first_outside k size [] = None
first_outside k size (s ∷ ss) = if nat_lt size (s.offset + length s.items) then Some k else first_outside (suc k) size ss

-- the first refusal that holds, or none
abbrev pub or_else : {A : Type 0} → Option A → Option A → Option A
or_else (Some x) other = Some x
or_else None other = other

-- this refusal, where the test is true
abbrev pub refused_if : Bool → StartRefusal → Option StartRefusal
refused_if true r = Some r
refused_if false r = None

-- 4.5.4 the first refusal of the instance, where there is one; as in the standard, all segments are checked before one is written. Ours: the order, imports, floats and the limits
unfoldable pub start_refusal : ℕ → ModuleShape → List BodyShape → Option StartRefusal
start_refusal pages m bodies = let l = layout_of m in
    or_else (refused_if (nat_lt 0 (length m.imports)) HasImports)
    (or_else (refused_if (has_floats m bodies) HasFloats)
    (or_else (refused_if (nat_lt table_limit (unwrap_or l.table 0)) TableLimit)
    (or_else (refused_if (nat_lt pages (unwrap_or (option_map (λ x. x.min) l.memory) 0)) MemoryLimit)
    (or_else (option_map ElementOutside (first_outside 0 (unwrap_or l.table 0) l.elements))
    (option_map DataOutside (first_outside 0 (unwrap_or (option_map (λ x. x.min) l.memory) 0 * page) l.data'))))))

-- The instance.

-- 4.5.3 the functions: of each its type, its declared locals, and the tree of its tokens
abbrev pub FunctionsOf : List FuncType → List ℕ → List BodyShape → List Function → Type 0
FunctionsOf types [] [] [] = Unit {0}
FunctionsOf types (y ∷ ys) (b ∷ bs) (fn ∷ fns) =
    (fn.func_type ≡ type_at types y) × (fn.locals ≡ declared b.runs) × (flat_body fn.body ≡ b.code) × FunctionsOf types ys bs fns
FunctionsOf types _ _ _ = ⊥

-- 4.5.3 the module instance of a module without imports
pub record InstanceOf (m : ModuleShape) (bodies : List BodyShape) (i : Module) : Type 0 where
  pub same_types : i.types ≡ m.types
  pub each : FunctionsOf m.types m.functions bodies i.functions

-- 4.5.4 the store of a fresh instance
abbrev pub fresh_store : ℕ → ModuleShape → Store
fresh_store pages m = fresh pages (layout_of m)
