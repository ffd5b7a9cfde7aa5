-- Bodies with block types by index, as Core 2.0 has them, and the verdict of the algorithm on each.
use Rattle.std.specs.Prelude.{◌≡◌, ℕ, true, List, [], ◌∷◌}
use Rattle.wsyntax.specs.declared.types.ValType.TheVariants.{I32, I64}
use Rattle.wsyntax.specs.Types.{FuncType}
use Rattle.wsyntax.specs.declared.instructions.BlockType.{BlockType}
use Rattle.wsyntax.specs.declared.instructions.BlockType.TheVariants.{Value, Index}
use Rattle.wsyntax.specs.Instructions.{Unreachable, Return, Drop, Br, BrIf, BrTable, Call, CallIndirect}
use Rattle.wsyntax.specs.Instructions.{Token, Do, OpenBlock, OpenLoop, OpenIf, Else, End}
use Rattle.wsyntax.specs.Validation.Context.{Context, leave}
use Rattle.wsyntax.specs.Validation.Algorithm.{Verdict, Accepted, Refused, alg}
use Rattle.soundness.specs.Bodies.{bare, zero32, zero64, eqz32, eqz64}

-- Six function types, and the block types that are their indices.

-- [i32 i64] -> [i64 i32]
abbrev pub turning : FuncType
turning = record { params = I32 ∷ I64 ∷ []; results = I64 ∷ I32 ∷ [] }

-- [i32 i64] -> [i32 i64]
abbrev pub keeping : FuncType
keeping = record { params = I32 ∷ I64 ∷ []; results = I32 ∷ I64 ∷ [] }

-- [] -> [i32 i64]
abbrev pub giving : FuncType
giving = record { params = []; results = I32 ∷ I64 ∷ [] }

-- [i32] -> [i64]
abbrev pub changing : FuncType
changing = record { params = I32 ∷ []; results = I64 ∷ [] }

-- [] -> [i32]
abbrev pub giving_one : FuncType
giving_one = record { params = []; results = I32 ∷ [] }

-- [i32] -> []
abbrev pub taking_one : FuncType
taking_one = record { params = I32 ∷ []; results = [] }

-- a block type: the type of index 0
abbrev pub turns : BlockType
turns = Index 0

-- a block type: the type of index 1
abbrev pub keeps : BlockType
keeps = Index 1

-- a block type: the type of index 2
abbrev pub gives : BlockType
gives = Index 2

-- a block type: the type of index 3
abbrev pub changes : BlockType
changes = Index 3

-- a block type: the type of index 4
abbrev pub gives_one : BlockType
gives_one = Index 4

-- a block type: the type of index 5
abbrev pub takes_one : BlockType
takes_one = Index 5

-- no type has this index
abbrev pub no_type : BlockType
no_type = Index 6

-- the context of a module with these types, a table, and one function, which is of the first type
abbrev pub several : Context
several = record bare {
  types = turning ∷ keeping ∷ giving ∷ changing ∷ giving_one ∷ taking_one ∷ [];
  functions = turning ∷ [];
  has_table = true;
}

-- the verdict on the tokens of the body of a function of type [] -> [], its last `end` included
abbrev pub verdict : List Token → Verdict
verdict ts = alg several [] ts

-- the verdict on the tokens of the body of a function of type [] -> [i32 i64]
abbrev pub verdict_of_two : List Token → Verdict
verdict_of_two ts = alg several (leave giving) ts

-- Tokens.

-- the token `drop`
abbrev pub drop : Token
drop = Do Drop

-- the token `br l`
abbrev pub br : ℕ → Token
br l = Do (Br l)

-- the token `br_if l`
abbrev pub br_if : ℕ → Token
br_if l = Do (BrIf l)

-- br_table with one label in its table, and the default
abbrev pub br_table : ℕ → ℕ → Token
br_table l d = Do (BrTable (l ∷ []) d)

-- takes an i64 and, below it, an i32 away; eqz says which is which
abbrev pub take_64_32 : List Token → List Token
take_64_32 ts = eqz64 ∷ drop ∷ eqz32 ∷ drop ∷ ts

-- the end of a block that gives i64, what takes that away, and the end of the body
abbrev pub after_64 : List Token
after_64 = End ∷ eqz64 ∷ drop ∷ End ∷ []

-- the same of a block that gives [i32 i64]
abbrev pub after_32_64 : List Token
after_32_64 = End ∷ take_64_32 (End ∷ [])

-- and of one that gives [i64 i32]
abbrev pub after_64_32 : List Token
after_64_32 = End ∷ eqz32 ∷ drop ∷ eqz64 ∷ drop ∷ End ∷ []

-- what stands in a block of type [i32 i64] -> [i64 i32], and what is after it
abbrev pub turned : List Token
turned = take_64_32 (zero64 ∷ zero32 ∷ after_64_32)

-- Blocks, loops, ifs and labels.

-- 3.2.2 and 3.3.8 of Core 2.0, `block`: it takes its parameters from the operands outside, begins with them, and gives its results
pub record IndexedBlocks : Type 0 where
  pub takes_and_gives : verdict (zero32 ∷ zero64 ∷ OpenBlock turns ∷ turned) ≡ Accepted
  -- the last parameter is the topmost
  pub params_in_order : verdict (zero64 ∷ zero32 ∷ OpenBlock turns ∷ turned) ≡ Refused 2
  pub param_missing : verdict (zero64 ∷ OpenBlock turns ∷ turned) ≡ Refused 1
  -- what stands below the parameters is not seen inside, and is there again after the block
  pub lower_is_not_seen : verdict (zero32 ∷ zero32 ∷ zero64 ∷ OpenBlock turns ∷ take_64_32 (drop ∷ End ∷ [])) ≡ Refused 8
  pub lower_is_kept : verdict (zero32 ∷ zero32 ∷ zero64 ∷ OpenBlock keeps ∷ End ∷ take_64_32 (drop ∷ End ∷ [])) ≡ Accepted
  -- the last result is the topmost, at the end and after it
  pub results_in_order : verdict (zero32 ∷ zero64 ∷ OpenBlock turns ∷ after_64_32) ≡ Refused 3
  pub results_as_given : verdict (zero32 ∷ zero64 ∷ OpenBlock turns ∷ take_64_32 (zero64 ∷ zero32 ∷ after_32_64)) ≡ Refused 10
  pub result_missing : verdict (OpenBlock gives ∷ zero64 ∷ after_32_64) ≡ Refused 2
  pub one_too_many : verdict (OpenBlock gives ∷ zero32 ∷ zero32 ∷ zero64 ∷ after_32_64) ≡ Refused 4
  -- the index of a type that is not there, also where the code cannot be reached
  pub no_type_of_block : verdict (OpenBlock no_type ∷ End ∷ End ∷ []) ≡ Refused 0
  pub no_type_of_loop : verdict (OpenLoop no_type ∷ End ∷ End ∷ []) ≡ Refused 0
  pub no_type_of_if : verdict (zero32 ∷ OpenIf no_type ∷ Else ∷ End ∷ End ∷ []) ≡ Refused 1
  pub no_type_unreached : verdict (Do Unreachable ∷ OpenBlock no_type ∷ End ∷ End ∷ []) ≡ Refused 1
  -- where the code cannot be reached, the parameters that are not there fit, and those that are there keep their types
  pub unreached_params : verdict (Do Unreachable ∷ OpenBlock turns ∷ turned) ≡ Accepted
  pub unreached_last_param : verdict (Do Unreachable ∷ zero32 ∷ OpenBlock turns ∷ turned) ≡ Refused 2

-- 3.3.8 of Core 2.0, `loop`: a branch to it takes its parameters
pub record IndexedLoops : Type 0 where
  pub branch_takes_params : verdict (zero32 ∷ OpenLoop changes ∷ br 0 ∷ after_64) ≡ Accepted
  pub branch_without_params : verdict (zero32 ∷ OpenLoop changes ∷ drop ∷ br 0 ∷ after_64) ≡ Refused 3
  pub branch_with_results : verdict (zero32 ∷ OpenLoop changes ∷ drop ∷ zero64 ∷ br 0 ∷ after_64) ≡ Refused 4
  -- it ends with its results
  pub ends_with_results : verdict (zero32 ∷ OpenLoop changes ∷ drop ∷ zero64 ∷ after_64) ≡ Accepted
  pub ends_with_params : verdict (zero32 ∷ OpenLoop changes ∷ after_64) ≡ Refused 2
  pub param_missing : verdict (OpenLoop changes ∷ br 0 ∷ after_64) ≡ Refused 0
  -- a branch that may be taken leaves the parameters
  pub br_if_leaves : verdict (zero32 ∷ zero64 ∷ OpenLoop keeps ∷ zero32 ∷ br_if 0 ∷ after_32_64) ≡ Accepted
  -- out of a block in the loop
  pub from_inside : verdict (zero32 ∷ OpenLoop changes ∷ OpenBlock takes_one ∷ br 1 ∷ End ∷ zero64 ∷ after_64) ≡ Accepted
  pub from_inside_without : verdict (zero32 ∷ OpenLoop changes ∷ OpenBlock takes_one ∷ drop ∷ br 1 ∷ End ∷ zero64 ∷ after_64) ≡ Refused 4

-- 3.3.8 of Core 2.0, `if`: both branches begin with the parameters; where `else` is not written, the second gives them as they are
pub record IndexedIfs : Type 0 where
  pub both_take_params : verdict (zero32 ∷ zero32 ∷ OpenIf changes ∷ drop ∷ zero64 ∷ Else ∷ eqz32 ∷ drop ∷ zero64 ∷ after_64) ≡ Accepted
  pub both_give_results : verdict (zero32 ∷ zero32 ∷ OpenIf changes ∷ drop ∷ zero64 ∷ Else ∷ after_64) ≡ Refused 6
  -- the condition stands above the parameters
  pub only_condition : verdict (zero32 ∷ OpenIf takes_one ∷ drop ∷ Else ∷ drop ∷ End ∷ End ∷ []) ≡ Refused 1
  -- of [i32 i64] -> [i32 i64]: without `else`, and with an empty one
  pub keeps_without_else : verdict (zero32 ∷ zero64 ∷ zero32 ∷ OpenIf keeps ∷ take_64_32 (zero32 ∷ zero64 ∷ after_32_64)) ≡ Accepted
  pub keeps_with_else : verdict (zero32 ∷ zero64 ∷ zero32 ∷ OpenIf keeps ∷ Else ∷ after_32_64) ≡ Accepted
  -- without `else`, of [] -> [i32], [i32] -> [], [i32] -> [i64] and [i32 i64] -> [i64 i32]
  pub gives_without_else : verdict (zero32 ∷ OpenIf gives_one ∷ zero32 ∷ End ∷ drop ∷ End ∷ []) ≡ Refused 3
  pub takes_without_else : verdict (zero32 ∷ zero32 ∷ OpenIf takes_one ∷ drop ∷ End ∷ End ∷ []) ≡ Refused 4
  pub changes_without_else : verdict (zero32 ∷ zero32 ∷ OpenIf changes ∷ drop ∷ zero64 ∷ after_64) ≡ Refused 5
  pub turns_without_else : verdict (zero32 ∷ zero64 ∷ zero32 ∷ OpenIf turns ∷ turned) ≡ Refused 10
  -- the end of the first branch is not reached, that of the second is
  pub unreached_without_else : verdict (zero32 ∷ OpenIf gives_one ∷ Do Unreachable ∷ End ∷ drop ∷ End ∷ []) ≡ Refused 3

-- 3.3.8 of Core 2.0, branches to labels of several types
pub record IndexedLabels : Type 0 where
  pub takes_two : verdict (OpenBlock gives ∷ zero32 ∷ zero64 ∷ br 0 ∷ after_32_64) ≡ Accepted
  pub in_order : verdict (OpenBlock gives ∷ zero64 ∷ zero32 ∷ br 0 ∷ after_32_64) ≡ Refused 3
  pub one_missing : verdict (OpenBlock gives ∷ zero64 ∷ br 0 ∷ after_32_64) ≡ Refused 2
  -- what stands below what is taken is dropped
  pub lower_is_dropped : verdict (OpenBlock gives ∷ zero64 ∷ zero32 ∷ zero64 ∷ br 0 ∷ after_32_64) ≡ Accepted
  -- to the outer of two blocks; the label of the inner one takes an i32
  pub outer_label : verdict (OpenBlock gives ∷ OpenBlock (Value I32) ∷ zero32 ∷ zero64 ∷ br 1 ∷ End ∷ zero64 ∷ after_32_64) ≡ Accepted
  pub inner_label : verdict (OpenBlock gives ∷ OpenBlock (Value I32) ∷ zero32 ∷ zero64 ∷ br 0 ∷ End ∷ zero64 ∷ after_32_64) ≡ Refused 4
  pub br_if_leaves : verdict (OpenBlock gives ∷ zero32 ∷ zero64 ∷ zero32 ∷ br_if 0 ∷ after_32_64) ≡ Accepted
  pub br_if_in_order : verdict (OpenBlock gives ∷ zero64 ∷ zero32 ∷ zero32 ∷ br_if 0 ∷ after_32_64) ≡ Refused 4
  -- where the code cannot be reached, what br_if leaves is of the label's types
  pub br_if_unreached : verdict (OpenBlock gives ∷ Do Unreachable ∷ br_if 0 ∷ eqz32 ∷ after_32_64) ≡ Refused 3
  -- the labels of a table have one list of types
  pub table_of_two : verdict (OpenBlock gives ∷ OpenBlock gives ∷ zero32 ∷ zero64 ∷ zero32 ∷ br_table 0 1 ∷ End ∷ after_32_64) ≡ Accepted
  pub table_of_others :
      verdict (OpenBlock gives ∷ OpenBlock (Value I64) ∷ zero32 ∷ zero64 ∷ zero32 ∷ br_table 0 1 ∷ End ∷ after_32_64) ≡ Refused 5

-- 3.2.3 and 3.4.1 of Core 2.0, functions with two results
pub record SeveralResults : Type 0 where
  -- a body of type [] -> [i32 i64]: at its end, at a branch to its outermost label, at a return
  pub ends_with_two : verdict_of_two (zero32 ∷ zero64 ∷ End ∷ []) ≡ Accepted
  pub ends_in_order : verdict_of_two (zero64 ∷ zero32 ∷ End ∷ []) ≡ Refused 2
  pub branches_with_two : verdict_of_two (zero32 ∷ zero64 ∷ br 0 ∷ End ∷ []) ≡ Accepted
  pub branches_with_one : verdict_of_two (zero64 ∷ br 0 ∷ End ∷ []) ≡ Refused 1
  pub returns_two : verdict_of_two (zero64 ∷ zero32 ∷ zero64 ∷ Do Return ∷ End ∷ []) ≡ Accepted
  pub returns_one : verdict_of_two (zero64 ∷ Do Return ∷ End ∷ []) ≡ Refused 1
  -- calls of type [i32 i64] -> [i64 i32]
  pub call_gives_two : verdict (zero32 ∷ zero64 ∷ Do (Call 0) ∷ eqz32 ∷ drop ∷ eqz64 ∷ drop ∷ End ∷ []) ≡ Accepted
  pub call_in_order : verdict (zero32 ∷ zero64 ∷ Do (Call 0) ∷ eqz64 ∷ drop ∷ eqz32 ∷ drop ∷ End ∷ []) ≡ Refused 3
  pub through_the_table : verdict (zero32 ∷ zero64 ∷ zero32 ∷ Do (CallIndirect 0) ∷ eqz32 ∷ drop ∷ eqz64 ∷ drop ∷ End ∷ []) ≡ Accepted
