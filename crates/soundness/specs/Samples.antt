-- Small modules, and how calls of their functions end.
use Rattle.std.specs.Prelude.{◌≡◌, ℕ, List, [], ◌∷◌, true, false, Option, Some, None}
use Rattle.wsyntax.specs.declared.types.ValType.TheVariants.{I32, I64}
use Rattle.wsyntax.specs.Types.{FuncType}
use Rattle.wsyntax.specs.declared.instructions.BlockType.TheVariants.{Empty, Value as Gives}
use Rattle.wsyntax.specs.Instructions.{Width32, Add, Sub, DivS, OfTwo, Access, Unreachable, Return, Br, BrIf, BrTable, Call, CallIndirect, LocalGet, LocalTee, Const, Numeric, MemoryLoad, MemoryStore, Code, Stop, Plain, Block, Loop}
use Rattle.wsyntax.specs.declared.value.Value.{Value}
use Rattle.wsyntax.specs.declared.value.Value.TheVariants.{I32 as V32}
use Rattle.wsyntax.specs.declared.value.Trap.TheVariants.{OutOfBounds, TypeMismatch, UndefinedElement, UninitializedElement, ByOperator}
use Rattle.wsyntax.specs.Execution.Store.{Function, Module, Store, Unset, SetTo}
use Rattle.wnum.specs.declared.trap.NumTrap.TheVariants.{DivideByZero, IntegerOverflow}
use Rattle.wsyntax.specs.Execution.Ends.{Outcome, Values, Trapped, OutOfFuel, OutOfFrames}
use Rattle.wsyntax.specs.Execution.Run.{call_ends}

-- Types and instructions.

-- [] -> []
abbrev pub none : FuncType
none = record { params = []; results = [] }

-- [i32] -> [i32]
abbrev pub one : FuncType
one = record { params = I32 ∷ []; results = I32 ∷ [] }

-- [i32 i32] -> [i32]
abbrev pub two : FuncType
two = record { params = I32 ∷ I32 ∷ []; results = I32 ∷ [] }

-- i32.const
abbrev pub const : ℕ → Code → Code
const n rest = Plain (Const I32 n) rest

-- i32.load8_s
abbrev pub byte_at : ℕ → Access
byte_at n = record { of_type = I32; width = 1; signed = true; align = 0; offset = n }

-- i32.load and i32.store
abbrev pub word_at : ℕ → Access
word_at n = record { of_type = I32; width = 4; signed = false; align = 0; offset = n }

-- Functions.

-- counts its argument down to 0
abbrev pub counts : Function
counts = record { func_type = one; locals = []; body = Loop Empty (Plain (LocalGet 0) (const 1 (Plain (Numeric (OfTwo Width32 Sub)) (Plain (LocalTee 0) (Plain (BrIf 0) Stop))))) (Plain (LocalGet 0) Stop) }

-- calls function 0 and adds 40; nothing after its return is reached
abbrev pub calls : Function
calls = record { func_type = one; locals = I64 ∷ []; body = Plain (LocalGet 0) (Plain (Call 0) (const 40 (Plain (Numeric (OfTwo Width32 Add)) (Plain Return (Plain Unreachable Stop))))) }

-- divides its first argument by its second
abbrev pub divides : Function
divides = record { func_type = two; locals = []; body = Plain (LocalGet 0) (Plain (LocalGet 1) (Plain (Numeric (OfTwo Width32 DivS)) Stop)) }

-- loops for ever
abbrev pub loops : Function
loops = record { func_type = none; locals = []; body = Loop Empty (Plain (Br 0) Stop) Stop }

-- is function 4 and calls itself
abbrev pub recurs : Function
recurs = record { func_type = none; locals = []; body = Plain (Call 4) Stop }

-- stores 511 and loads the lowest byte of it with its sign
abbrev pub stores : Function
stores = record { func_type = one; locals = []; body = Plain (LocalGet 0) (const 511 (Plain (MemoryStore (word_at 0)) (Plain (LocalGet 0) (Plain (MemoryLoad (byte_at 0)) Stop)))) }

-- calls through the table, with the argument 9
abbrev pub calls_entry : Function
calls_entry = record { func_type = one; locals = []; body = const 9 (Plain (LocalGet 0) (Plain (CallIndirect 1) Stop)) }

-- loads at the greatest offset
abbrev pub loads_far : Function
loads_far = record { func_type = one; locals = []; body = Plain (LocalGet 0) (Plain (MemoryLoad (word_at 4294967295)) Stop) }

-- 10 from the inner block, 20 from the outer one: the entries of the table are 0 and 1, the default is 1
abbrev pub chooses : Function
chooses = record { func_type = one; locals = []; body = Block (Gives I32) (Block (Gives I32) (const 20 (Plain (LocalGet 0) (Plain (BrTable (0 ∷ 1 ∷ []) 1) Stop))) (const 10 (Plain (Numeric (OfTwo Width32 Sub)) Stop))) Stop }

-- A module of them, and its store.

-- the module of these functions
abbrev pub sample : Module
sample = record { types = none ∷ one ∷ two ∷ []; functions = counts ∷ calls ∷ divides ∷ loops ∷ recurs ∷ stores ∷ calls_entry ∷ loads_far ∷ chooses ∷ [] }

-- eight bytes of memory; in the table function 0, function 2 and an entry that was never set
abbrev pub little : Store
little = record {
  memory = Some (record { bytes = 0 ∷ 0 ∷ 0 ∷ 0 ∷ 0 ∷ 0 ∷ 0 ∷ 0 ∷ []; most = None; pages = 1 });
  table = Some (SetTo 0 ∷ SetTo 2 ∷ Unset ∷ []);
  globals = [];
}

-- how a call of function f of the sample ends with this fuel and these frames, and the fuel that is left
abbrev pub calling : ℕ → List Value → ℕ → ℕ → Option (Outcome × ℕ)
calling f args fuel frames = call_ends sample little f args fuel frames 100

-- How calls end.

-- 4.4.5 control: loops, calls, branches, returns
pub record ControlExamples : Type 0 where
  pub counts_down : calling 0 (V32 3 ∷ []) 10 2 ≡ Some (Values (V32 0 ∷ []), 6)
  pub counts_through_zero : calling 0 (V32 0 ∷ []) 10 2 ≡ Some (OutOfFuel, 0)
  pub calls_and_adds : calling 1 (V32 2 ∷ []) 10 2 ≡ Some (Values (V32 40 ∷ []), 6)
  pub first_entry : calling 8 (V32 0 ∷ []) 10 2 ≡ Some (Values (V32 10 ∷ []), 9)
  pub second_entry : calling 8 (V32 1 ∷ []) 10 2 ≡ Some (Values (V32 20 ∷ []), 9)
  pub default_entry : calling 8 (V32 4294967295 ∷ []) 10 2 ≡ Some (Values (V32 20 ∷ []), 9)

-- limits: an entry and each turn of a loop take one unit of fuel, which is tested before the frames
pub record LimitExamples : Type 0 where
  pub five_units : calling 3 [] 5 2 ≡ Some (OutOfFuel, 0)
  pub no_unit : calling 3 [] 0 2 ≡ Some (OutOfFuel, 0)
  pub three_frames : calling 4 [] 10 3 ≡ Some (OutOfFrames, 7)
  pub fuel_before_frames : calling 4 [] 3 3 ≡ Some (OutOfFuel, 0)
  pub one_frame : calling 4 [] 10 1 ≡ Some (OutOfFrames, 9)

-- 4.3.2 the traps of a division
pub record DivisionExamples : Type 0 where
  pub toward_zero : calling 2 (V32 4294967289 ∷ V32 2 ∷ []) 10 2 ≡ Some (Values (V32 4294967293 ∷ []), 9)
  pub by_zero : calling 2 (V32 1 ∷ V32 0 ∷ []) 10 2 ≡ Some (Trapped (ByOperator DivideByZero), 9)
  pub least_by_minus_one : calling 2 (V32 2147483648 ∷ V32 4294967295 ∷ []) 10 2 ≡ Some (Trapped (ByOperator IntegerOverflow), 9)

-- 4.4.4 memory: a load copies the sign, an access must end within the bytes, and address and offset are added without wrapping
pub record MemoryExamples : Type 0 where
  pub loads_sign : calling 5 (V32 4 ∷ []) 10 3 ≡ Some (Values (V32 4294967295 ∷ []), 9)
  pub over_the_end : calling 5 (V32 5 ∷ []) 10 3 ≡ Some (Trapped OutOfBounds, 9)
  pub far_offset : calling 7 (V32 1 ∷ []) 10 3 ≡ Some (Trapped OutOfBounds, 9)
  pub far_address : calling 5 (V32 4294967295 ∷ []) 10 3 ≡ Some (Trapped OutOfBounds, 9)

-- 4.4.5 call_indirect, with its three traps
pub record TableExamples : Type 0 where
  pub of_its_type : calling 6 (V32 0 ∷ []) 100 3 ≡ Some (Values (V32 0 ∷ []), 89)
  pub of_other_type : calling 6 (V32 1 ∷ []) 10 3 ≡ Some (Trapped TypeMismatch, 9)
  pub never_set : calling 6 (V32 2 ∷ []) 10 3 ≡ Some (Trapped UninitializedElement, 9)
  pub past_the_end : calling 6 (V32 3 ∷ []) 10 3 ≡ Some (Trapped UndefinedElement, 9)
  pub far_past_the_end : calling 6 (V32 4294967295 ∷ []) 10 3 ≡ Some (Trapped UndefinedElement, 9)
