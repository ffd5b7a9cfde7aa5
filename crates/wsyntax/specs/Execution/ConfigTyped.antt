-- Appendix 7.5, soundness: the typing of values, stores and configurations, for code without floats.
use Rattle.std.specs.Prelude.{◌≡◌, ℕ, ◌*◌, ◌<◌, List, [], ◌∷◌, ◌++◌, length, map, Bool, true, false, Option, Some, None, slice_get}
use Rattle.wsyntax.specs.Types.{ValType, I32, I64, F32, F64, FuncType, GlobalType}
use Rattle.wsyntax.specs.Instructions.{NumOp, FloatOp, Op, MemoryLoad, MemoryStore, Const, Numeric, Code, Stop, Plain, Block, Loop, If, IfElse}
use Rattle.wsyntax.specs.Validation.Context.{Stack, enter, leave, Context, under, frame_context}
use Rattle.wsyntax.specs.Validation.Typing.{Typed, BodyTyped}
use Rattle.wsyntax.specs.Execution.Values.{Value, types, AreWords}
use Rattle.wsyntax.specs.Execution.Store.{Function, Module, Memory, Entry, Unset, SetTo, Store, page, may_have}
use Rattle.wsyntax.specs.Execution.Step.{Work, Source, Invoke, Trap, Label, Frame, Config}

-- Values.

-- 7.5 values have these types: each is a word of its type
pub record ValuesTyped (vs : List Value) (a : List ValType) : Type 0 where
  pub typed : types vs ≡ a
  pub words : AreWords vs

-- Code without floats.

-- an integer type
abbrev pub IsInteger : ValType → Type 0
IsInteger I32 = Unit {0}
IsInteger I64 = Unit {0}
IsInteger F32 = ⊥
IsInteger F64 = ⊥

-- integer types alone
abbrev pub AreIntegers : List ValType → Type 0
AreIntegers [] = Unit {0}
AreIntegers (t ∷ ts) = IsInteger t × AreIntegers ts

-- an integer operator
abbrev pub IntegerNum : NumOp → Type 0
IntegerNum (FloatOp f) = ⊥
IntegerNum _ = Unit {0}

-- an instruction without floats
abbrev pub IntegerOp : Op → Type 0
IntegerOp (Const t n) = IsInteger t
IntegerOp (Numeric f) = IntegerNum f
IntegerOp (MemoryLoad a) = IsInteger a.of_type
IntegerOp (MemoryStore a) = IsInteger a.of_type
IntegerOp _ = Unit {0}

-- no float instruction stands in the code
abbrev pub IntegerCode : Code → Type 0
IntegerCode Stop = Unit {0}
IntegerCode (Plain i rest) = IntegerOp i × IntegerCode rest
IntegerCode (Block t body rest) = IntegerCode body × IntegerCode rest
IntegerCode (Loop t body rest) = IntegerCode body × IntegerCode rest
IntegerCode (If t body rest) = IntegerCode body × IntegerCode rest
IntegerCode (IfElse t body other rest) = IntegerCode body × IntegerCode other × IntegerCode rest

-- 7.5 code that takes a and leaves z. Ours: without floats
pub record CodeTyped (C : Context) (code : Code) (a z : Stack) : Type 0 where
  pub typed : Typed C code a z
  pub integer : IntegerCode code

-- Functions and modules.

-- 7.5 function instances: the body is typed under the function's own locals
pub record FunctionTyped (C : Context) (fn : Function) : Type 0 where
  pub body : BodyTyped (record C { locals = fn.func_type.params ++ fn.locals }) (leave fn.func_type) fn.body
  pub integer : IntegerCode fn.body
  pub locals : AreIntegers fn.locals

-- 7.5 module instances: the module is this context's, and each of its functions is typed
pub record ModuleTyped (C : Context) (m : Module) : Type 0 where
  pub same_types : m.types ≡ C.types
  pub same_functions : map (λ (fn : Function). fn.func_type) m.functions ≡ C.functions
  pub each : (f : ℕ) (fn : Function) → slice_get m.functions f ≡ Some fn → FunctionTyped C fn

-- Stores.

-- each is a number below 256
abbrev pub AreBytes : List ℕ → Type 0
AreBytes [] = Unit {0}
AreBytes (b ∷ bs) = (b < 256) × AreBytes bs

-- 7.5 memory instances: whole pages within the bounds
pub record MemoryTyped (m : Memory) : Type 0 where
  pub count : ℕ
  pub whole : length m.bytes ≡ count * page
  pub bounded : may_have m count ≡ true
  pub bytes : AreBytes m.bytes

-- what stands there is as it should be, and where there should be something, it stands there
abbrev pub Has : {A : Type 0} → Bool → (A → Type 0) → Option A → Type 0
Has true P None = ⊥
Has false P None = Unit {0}
Has b P (Some x) = P x

-- 7.5 table instances: an entry that is set names a function
abbrev pub EntryTyped : Context → Entry → Type 0
EntryTyped C Unset = Unit {0}
EntryTyped C (SetTo f) = (t : FuncType) × (slice_get C.functions f ≡ Some t)

-- 7.5 table instances
abbrev pub TableTyped : Context → List Entry → Type 0
TableTyped C table = (i : ℕ) (e : Entry) → slice_get table i ≡ Some e → EntryTyped C e

-- what the globals hold
abbrev pub global_types : List GlobalType → List ValType
global_types gs = map (λ (g : GlobalType). g.val_type) gs

-- 7.5 stores: the memory, the table and the globals are typed
pub record StoreTyped (C : Context) (s : Store) : Type 0 where
  pub memory : Has C.has_memory MemoryTyped s.memory
  pub table : Has C.has_table (TableTyped C) s.table
  pub globals : ValuesTyped s.globals (global_types C.globals)

-- Configurations.

-- 7.5 administrative instructions: from the empty stack the work leads to b
abbrev pub WorkTyped : Context → Work → Stack → Type 0
WorkTyped C (Source vs code) b = (a : Stack) × ValuesTyped vs a × CodeTyped C code a b
WorkTyped C (Invoke vs f rest) b =
    (t : FuncType) × (c : Stack) × (slice_get C.functions f ≡ Some t) × ValuesTyped vs (enter t ++ c) × CodeTyped C rest (leave t ++ c) b
WorkTyped C (Trap vs kind rest) b = (a : Stack) × CodeTyped C rest a b
WorkTyped C (Label vs n cont inner rest) b =
    (r : Stack) × (d : Stack) × (c : Stack) × (length r ≡ n) × CodeTyped C cont r d × WorkTyped (under r C) inner d
    × ValuesTyped vs c × CodeTyped C rest (d ++ c) b
WorkTyped C (Frame vs n own inner rest) b =
    (r : Stack) × (c : Stack) × (length r ≡ n) × AreWords own × WorkTyped (frame_context (types own) r C) inner r
    × ValuesTyped vs c × CodeTyped C rest (r ++ c) b

-- the context outside every function: under no label, and with no return type
abbrev pub outside : List ValType → Context → Context
outside locals C = record C { locals = locals; labels = []; return = None }

-- 7.5 configurations: a whole one leads to values of the types r
pub record ConfigTyped (C : Context) (c : Config) (r : Stack) : Type 0 where
  pub store : StoreTyped C c.store
  pub locals : AreWords c.locals
  pub work : WorkTyped (outside (types c.locals) C) c.work r
