-- Each instruction alone: what the body of a function of type [] -> [i32] gives.
use Rattle.std.specs.Prelude.{◌≡◌, ℕ, [], ◌∷◌, false, Option, Some, None, option_map}
use Rattle.wsyntax.specs.declared.types.ValType.{ValType}
use Rattle.wsyntax.specs.declared.types.ValType.TheVariants.{I32, I64}
use Rattle.wsyntax.specs.declared.instructions.BlockType.TheVariants.{Empty, Value as Gives}
use Rattle.wsyntax.specs.Instructions.{Width32, Width64, Sub, Eq, OfTwo, Comparing, Access, Unreachable, Nop, Return, Br, BrIf, Call, Drop, Select, LocalGet, LocalSet, LocalTee, GlobalGet, GlobalSet, Const, Numeric, MemoryLoad, MemoryStore, MemorySize, Code, Stop, Plain, Block, Loop, If, IfElse}
use Rattle.wsyntax.specs.declared.value.Value.TheVariants.{I32 as V32}
use Rattle.wsyntax.specs.declared.value.Trap.TheVariants.{Unreachable as ByUnreachable}
use Rattle.wsyntax.specs.Execution.Store.{Module, Store}
use Rattle.wsyntax.specs.Execution.Ends.{Outcome, Values, Trapped}
use Rattle.wsyntax.specs.Execution.Run.{call_ends}
use Rattle.soundness.specs.Samples.{two, const}

-- function 0 has this body and a declared local of type i32, function 1 subtracts its second argument from its first, function 2 traps
abbrev pub around : Code → Module
around body = record {
  types = two ∷ [];
  functions =
      record { func_type = record { params = []; results = I32 ∷ [] }; locals = I32 ∷ []; body = body } ∷
      record { func_type = two; locals = []; body = Plain (LocalGet 0) (Plain (LocalGet 1) (Plain (Numeric (OfTwo Width32 Sub)) Stop)) } ∷
      record { func_type = two; locals = []; body = Block Empty (Plain Unreachable Stop) Stop } ∷ [];
}

-- eight bytes of memory and a global
abbrev pub eight : Store
eight = record {
  memory = Some (record { bytes = 0 ∷ 0 ∷ 0 ∷ 0 ∷ 0 ∷ 0 ∷ 0 ∷ 0 ∷ []; most = None; pages = 1 });
  table = None;
  globals = V32 3 ∷ [];
}

-- how a call of function 0 ends
abbrev pub ends : Code → Option Outcome
ends body = option_map (λ x. x.0) (call_ends (around body) eight 0 [] 10 3 40)

-- it ends in this number
abbrev pub gives : ℕ → Option Outcome
gives n = Some (Values (V32 n ∷ []))

-- `width` bytes at offset n, for a value of type t
abbrev pub part : ValType → ℕ → ℕ → Access
part t width n = record { of_type = t; width = width; signed = false; align = 0; offset = n }

-- stores n in `width` bytes
abbrev pub stored : ValType → ℕ → ℕ → Code → Code
stored t width n rest = const 0 (Plain (Const t n) (Plain (MemoryStore (part t width 0)) rest))

-- 4.4.2 and 4.4.3 parametric and variable instructions
pub record VariableExamples : Type 0 where
  pub drops : ends (const 5 (const 6 (Plain Drop Stop))) ≡ gives 5
  pub selects_lower : ends (const 5 (const 6 (const 7 (Plain Select Stop)))) ≡ gives 5
  pub selects_upper : ends (const 5 (const 6 (const 0 (Plain Select Stop)))) ≡ gives 6
  pub local_at_first : ends (Plain (LocalGet 0) Stop) ≡ gives 0
  pub local_set : ends (const 5 (Plain (LocalSet 0) (Plain (LocalGet 0) Stop))) ≡ gives 5
  pub local_tee : ends (const 5 (Plain (LocalTee 0) (Plain (LocalGet 0) (Plain (Numeric (OfTwo Width32 Sub)) Stop)))) ≡ gives 0
  pub global_at_first : ends (Plain (GlobalGet 0) Stop) ≡ gives 3
  pub global_set : ends (const 5 (Plain (GlobalSet 0) (Plain (GlobalGet 0) Stop))) ≡ gives 5

-- 4.4.4 memory instructions: little-endian, and a narrow store keeps the low bytes
pub record BytesExamples : Type 0 where
  pub whole : ends (stored I32 4 258 (const 0 (Plain (MemoryLoad (part I32 4 0)) Stop))) ≡ gives 258
  pub lowest_byte_first : ends (stored I32 4 258 (const 0 (Plain (MemoryLoad (part I32 1 0)) Stop))) ≡ gives 2
  pub next_byte : ends (stored I32 4 258 (const 1 (Plain (MemoryLoad (part I32 1 0)) Stop))) ≡ gives 1
  pub next_by_offset : ends (stored I32 4 258 (const 0 (Plain (MemoryLoad (part I32 1 1)) Stop))) ≡ gives 1
  pub narrow_store : ends (stored I32 1 511 (const 0 (Plain (MemoryLoad (part I32 4 0)) Stop))) ≡ gives 255
  pub narrow_store_of_long : ends (stored I64 4 18446744073709551615 (const 0 (Plain (MemoryLoad (part I64 8 0)) (Plain (Const I64 4294967295) (Plain (Numeric (Comparing Width64 Eq)) Stop))))) ≡ gives 1
  pub no_page : ends (Plain MemorySize Stop) ≡ gives 0

-- 4.4.5 and 4.4.6 control instructions and blocks
pub record BlockExamples : Type 0 where
  pub passes : ends (Plain Nop (const 5 Stop)) ≡ gives 5
  pub traps : ends (Plain Unreachable Stop) ≡ Some (Trapped ByUnreachable)
  pub first_branch : ends (const 7 (IfElse (Gives I32) (const 5 Stop) (const 6 Stop) Stop)) ≡ gives 5
  pub second_branch : ends (const 0 (IfElse (Gives I32) (const 5 Stop) (const 6 Stop) Stop)) ≡ gives 6
  pub only_branch : ends (const 7 (If Empty (const 5 (Plain (LocalSet 0) Stop)) (Plain (LocalGet 0) Stop))) ≡ gives 5
  pub no_branch : ends (const 0 (If Empty (const 5 (Plain (LocalSet 0) Stop)) (Plain (LocalGet 0) Stop))) ≡ gives 0
  pub block_ends : ends (Block (Gives I32) (const 5 Stop) Stop) ≡ gives 5
  pub loop_ends : ends (Loop (Gives I32) (const 5 Stop) Stop) ≡ gives 5
  pub branch_drops : ends (Block (Gives I32) (const 5 (const 6 (Plain (Br 0) Stop))) Stop) ≡ gives 6
  pub branch_out : ends (Block (Gives I32) (Block Empty (const 5 (Plain (Br 1) Stop)) (const 6 Stop)) Stop) ≡ gives 5
  pub branch_out_of_all : ends (Block Empty (const 5 (Plain (Br 1) Stop)) (const 6 Stop)) ≡ gives 5
  pub branch_taken : ends (Block (Gives I32) (const 5 (const 7 (Plain (BrIf 0) (Plain Drop (const 6 Stop))))) Stop) ≡ gives 5
  pub branch_not_taken : ends (Block (Gives I32) (const 5 (const 0 (Plain (BrIf 0) (Plain Drop (const 6 Stop))))) Stop) ≡ gives 6
  pub returns : ends (Block Empty (const 5 (const 6 (Plain Return Stop))) (const 7 Stop)) ≡ gives 6
  pub arguments_in_order : ends (const 7 (const 2 (Plain (Call 1) Stop))) ≡ gives 5
  pub lower_are_kept : ends (const 9 (const 7 (const 2 (Plain (Call 1) (Plain (Numeric (OfTwo Width32 Sub)) Stop))))) ≡ gives 4
  pub trap_leaves_frames : ends (Block (Gives I32) (const 7 (const 2 (Plain (Call 2) Stop))) Stop) ≡ Some (Trapped ByUnreachable)
