-- Runs of Core 2.0: blocks with parameters and several results, branches that carry several values, functions with two results.
use Rattle.std.specs.Prelude.{◌≡◌, ℕ, true, List, [], ◌∷◌, Option, Some, None, codes}
use Rattle.wsyntax.specs.declared.types.ValType.TheVariants.{I32}
use Rattle.wsyntax.specs.Types.{FuncType}
use Rattle.wsyntax.specs.declared.instructions.BlockType.{BlockType}
use Rattle.wsyntax.specs.declared.instructions.BlockType.TheVariants.{Index}
use Rattle.wsyntax.specs.Instructions.{Width32, Add, Sub, OfTwo, Return, Br, BrIf, BrTable, Call, CallIndirect, Drop, LocalGet, LocalTee}
use Rattle.wsyntax.specs.Instructions.{Numeric, Code, Stop, Plain, Block, Loop, If, IfElse, flat_body}
use Rattle.wsyntax.specs.declared.value.Value.{Value}
use Rattle.wsyntax.specs.declared.value.Value.TheVariants.{I32 as V32, I64 as V64}
use Rattle.wsyntax.specs.Validation.Context.{Context}
use Rattle.wsyntax.specs.Validation.Algorithm.{Accepted, alg}
use Rattle.wsyntax.specs.Execution.Store.{Function, Module, Store, SetTo}
use Rattle.wsyntax.specs.Execution.Ends.{Outcome, Values}
use Rattle.wsyntax.specs.Execution.Run.{call_ends}
use Rattle.wsyntax.specs.Texts.Report.{Ran, report_text}
use Rattle.soundness.specs.Bodies.{bare}
use Rattle.soundness.specs.Samples.{one, const}
use Rattle.soundness.specs.BlockTypes.{turning}

-- Function types, and the block types that are their indices.

-- [i32 i32] -> [i32 i32]
abbrev pub two_to_two : FuncType
two_to_two = record { params = I32 ∷ I32 ∷ []; results = I32 ∷ I32 ∷ [] }

-- [] -> [i32 i32]
abbrev pub none_to_two : FuncType
none_to_two = record { params = []; results = I32 ∷ I32 ∷ [] }

-- [i32 i32] -> [i32]
abbrev pub two_to_one : FuncType
two_to_one = record { params = I32 ∷ I32 ∷ []; results = I32 ∷ [] }

-- a block type: the type of index 0
abbrev pub passes : BlockType
passes = Index 0

-- a block type: the type of index 1
abbrev pub keeps : BlockType
keeps = Index 1

-- a block type: the type of index 2
abbrev pub gives_two : BlockType
gives_two = Index 2

-- a block type: the type of index 3
abbrev pub joins : BlockType
joins = Index 3

-- Functions.

-- i32.sub
abbrev pub sub : Code → Code
sub rest = Plain (Numeric (OfTwo Width32 Sub)) rest

-- i32.add
abbrev pub add : Code → Code
add rest = Plain (Numeric (OfTwo Width32 Add)) rest

-- drop
abbrev pub drop : Code → Code
drop rest = Plain Drop rest

-- local.get 0, the argument
abbrev pub arg : Code → Code
arg rest = Plain (LocalGet 0) rest

-- the argument is made less by one, and is left
abbrev pub less : Code → Code
less rest = arg (const 1 (sub (Plain (LocalTee 0) rest)))

-- 5 and 3, the second on top
abbrev pub five_three : Code → Code
five_three rest = const 5 (const 3 rest)

-- gives its arguments in the other order, from the end of its body
abbrev pub turns : Function
turns = record { func_type = turning; locals = []; body = Plain (LocalGet 1) (arg Stop) }

-- gives 5 and 3, by a return over an operand that is dropped
abbrev pub returns_two : Function
returns_two = record { func_type = none_to_two; locals = []; body = const 9 (five_three (Plain Return Stop)) }

-- and by a branch out of its body
abbrev pub branches_with_two : Function
branches_with_two = record { func_type = none_to_two; locals = []; body = const 9 (five_three (Plain (Br 0) Stop)) }

-- A module of them, and its store.

-- function 0 is of type [i32] -> [i32] and has this body
abbrev pub around : Code → Module
around body = record {
  types = one ∷ two_to_two ∷ none_to_two ∷ two_to_one ∷ [];
  functions = record { func_type = one; locals = []; body = body } ∷ turns ∷ returns_two ∷ branches_with_two ∷ [];
}

-- the context of that body
abbrev pub context : Context
context = record bare {
  types = (around Stop).types;
  functions = one ∷ turning ∷ none_to_two ∷ none_to_two ∷ [];
  has_table = true;
  locals = I32 ∷ [];
}

-- a table with function 2, and nothing else
abbrev pub tabled : Store
tabled = record { memory = None; table = Some (SetTo 2 ∷ []); globals = [] }

-- how a call of a function ends, and the fuel that is left of ten units
abbrev pub calling : Code → ℕ → List Value → Option (Outcome × ℕ)
calling body f args = call_ends (around body) tabled f args 10 3 80

-- the body is valid, and with this argument it gives n and leaves `left` fuel
pub record Gives (body : Code) (arg n left : ℕ) : Type 0 where
  pub valid : alg context (I32 ∷ []) (flat_body body) ≡ Accepted
  pub ends : calling body 0 (V32 arg ∷ []) ≡ Some (Values (V32 n ∷ []), left)

-- Bodies.

-- the argument and all that is less are added to the loop's parameter, which is 0 at first
abbrev pub adds_down : Code
adds_down = const 0 (Loop passes (arg (add (less (Plain (BrIf 0) Stop)))) Stop)

-- a branch to the loop carries 5 over its parameter; where it is not taken, they are added
abbrev pub turns_with_five : Code
turns_with_five = const 1 (Loop passes (const 5 (less (Plain (BrIf 0) (add Stop)))) Stop)

-- an `if` without `else` over 5 and 3, which has 9 and 1 in their place
abbrev pub changes_both : Code
changes_both = five_three (arg (If keeps (drop (drop (const 9 (const 1 Stop)))) (sub Stop)))

-- an `if` over 5 and 3, which subtracts or adds them
abbrev pub joins_both : Code
joins_both = five_three (arg (IfElse joins (sub Stop) (add Stop) Stop))

-- a branch carries 5 and 3 over 9 out of a block; where it is not taken, 9 and 2 are left
abbrev pub carries_two : Code
carries_two = Block gives_two (const 9 (five_three (arg (Plain (BrIf 0) (drop (drop (const 2 Stop))))))) (sub Stop)

-- a branch carries 5 and 3 out of two blocks, over 9 and 8
abbrev pub carries_far : Code
carries_far = Block gives_two (const 9 (Block gives_two (const 8 (five_three (Plain (Br 1) Stop))) (drop Stop))) (sub Stop)

-- a table of branches carries 5 and 3 out of one block, where 1 is put instead of 3, or of two
abbrev pub chooses : Code
chooses = Block gives_two (Block gives_two (five_three (arg (Plain (BrTable (0 ∷ []) 1) Stop))) (drop (const 1 Stop))) (sub Stop)

-- How they end.

-- 4.4.8 and 4.4.9 of Core 2.0: blocks by index, and branches that carry several values
pub record SeveralExamples : Type 0 where
  -- a block of two results, and one of two parameters, which begins with them, the last on top
  pub block_gives_two : Gives (Block gives_two (five_three Stop) (sub Stop)) 0 2 9
  pub block_takes_two : Gives (five_three (Block joins (sub Stop) Stop)) 0 2 9
  -- what is below the parameters is there after the block
  pub lower_is_kept : Gives (const 9 (five_three (Block joins (sub Stop) (sub Stop)))) 0 7 9
  -- 4 + 3 + 2 + 1; the entry of the function and each turn take one unit of fuel
  pub loop_adds_down : Gives adds_down 4 10 5
  pub loop_once : Gives adds_down 1 1 8
  -- a branch to a loop carries its parameters, and drops what is below
  pub loop_drops : Gives turns_with_five 2 10 7
  -- an `if` without `else` passes its operands where it is not taken
  pub if_passes : Gives changes_both 0 2 9
  pub if_changes : Gives changes_both 1 8 9
  pub first_branch : Gives joins_both 1 2 9
  pub second_branch : Gives joins_both 0 8 9
  -- a branch carries two values in their order, and drops what is below
  pub branch_taken : Gives carries_two 1 2 9
  pub branch_not_taken : Gives carries_two 0 7 9
  pub branch_far : Gives carries_far 0 2 9
  pub table_to_inner : Gives chooses 0 4 9
  pub table_to_outer : Gives chooses 1 2 9
  -- what is below the block is kept
  pub below_the_block : Gives (const 20 (Block gives_two (const 9 (five_three (Plain (Br 0) Stop))) (sub (sub Stop)))) 0 18 9

-- 4.4.10 of Core 2.0: calls of functions with two results
pub record TwoResults : Type 0 where
  -- from outside, the lowest result first, and the report on that call
  pub at_its_end : calling Stop 1 (V32 2 ∷ V64 7 ∷ []) ≡ Some (Values (V64 7 ∷ V32 2 ∷ []), 9)
  pub report : report_text (Ran (Values (V64 7 ∷ V32 2 ∷ [])) 1 ∷ [])
      ≡ codes "0 values i64:7,i32:2 fuel 1\ntotal 1 values 1 traps 0 exhausted 0 refused 0 no-memory 0 fuel 1\n"
  pub at_a_return : calling Stop 2 [] ≡ Some (Values (V32 5 ∷ V32 3 ∷ []), 9)
  pub at_a_branch : calling Stop 3 [] ≡ Some (Values (V32 5 ∷ V32 3 ∷ []), 9)
  -- from a function, over an operand that is kept
  pub call : Gives (const 20 (Plain (Call 2) (sub (sub Stop)))) 0 18 8
  pub call_of_branch : Gives (const 20 (Plain (Call 3) (sub (sub Stop)))) 0 18 8
  pub through_the_table : Gives (const 20 (const 0 (Plain (CallIndirect 2) (sub (sub Stop))))) 0 18 8
