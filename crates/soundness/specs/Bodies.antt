-- Bodies of a function of type [] -> [], and the verdict of the algorithm on each.
use Rattle.std.specs.Prelude.{◌≡◌, false, None, List, [], ◌∷◌}
use Rattle.wsyntax.specs.declared.types.ValType.TheVariants.{I32, I64}
use Rattle.wsyntax.specs.declared.instructions.BlockType.TheVariants.{Empty, Value}
use Rattle.wsyntax.specs.Instructions.{Unreachable, Return, Drop, Select, Br, BrIf, BrTable, Const, OfTwo, Eqz, Width32, Width64, Add, Numeric, Token, Do, OpenBlock, OpenLoop, OpenIf, Else, End}
use Rattle.wsyntax.specs.Validation.Context.{Context}
use Rattle.wsyntax.specs.Validation.Algorithm.{Verdict, Accepted, Refused, alg}

-- the context of a module with nothing in it
abbrev pub bare : Context
bare = record { types = []; functions = []; has_table = false; has_memory = false; globals = []; locals = []; labels = []; return = None }

-- the verdict on the tokens of a body, its last `end` included
abbrev pub verdict : List Token → Verdict
verdict ts = alg bare [] ts

-- i32.const 0
abbrev pub zero32 : Token
zero32 = Do (Const I32 0)

-- i64.const 0
abbrev pub zero64 : Token
zero64 = Do (Const I64 0)

-- i32.add
abbrev pub add : Token
add = Do (Numeric (OfTwo Width32 Add))

-- i32.eqz
abbrev pub eqz32 : Token
eqz32 = Do (Numeric (Eqz Width32))

-- i64.eqz
abbrev pub eqz64 : Token
eqz64 = Do (Numeric (Eqz Width64))

-- code that can be reached
pub record ReachedBodies : Type 0 where
  pub adds : verdict (zero32 ∷ zero32 ∷ add ∷ Do Drop ∷ End ∷ []) ≡ Accepted
  pub one_too_many : verdict (zero32 ∷ End ∷ []) ≡ Refused 1
  pub one_missing : verdict (zero32 ∷ add ∷ Do Drop ∷ End ∷ []) ≡ Refused 1
  pub with_else : verdict (zero32 ∷ OpenIf (Value I32) ∷ zero32 ∷ Else ∷ zero32 ∷ End ∷ Do Drop ∷ End ∷ []) ≡ Accepted
  pub without_else : verdict (zero32 ∷ OpenIf Empty ∷ End ∷ End ∷ []) ≡ Accepted
  -- the empty second branch gives no result
  pub result_without_else : verdict (zero32 ∷ OpenIf (Value I32) ∷ zero32 ∷ End ∷ Do Drop ∷ End ∷ []) ≡ Refused 3
  -- a branch out of a block takes its result, a branch to a loop takes none
  pub branch_of_block : verdict (OpenBlock (Value I32) ∷ Do (Br 0) ∷ End ∷ Do Drop ∷ End ∷ []) ≡ Refused 1
  pub branch_of_loop : verdict (OpenLoop (Value I32) ∷ Do (Br 0) ∷ End ∷ Do Drop ∷ End ∷ []) ≡ Accepted
  pub no_label : verdict (OpenBlock Empty ∷ Do (Br 2) ∷ End ∷ End ∷ []) ≡ Refused 1
  pub outermost_label : verdict (OpenBlock Empty ∷ Do (Br 1) ∷ End ∷ End ∷ []) ≡ Accepted
  pub lower_of_frame : verdict (zero32 ∷ OpenBlock Empty ∷ Do Drop ∷ End ∷ Do Drop ∷ End ∷ []) ≡ Refused 2

-- code that cannot be reached: the operands that are not there fit every type, those that are there keep theirs
pub record UnreachedBodies : Type 0 where
  pub lower_is_free : verdict (Do Unreachable ∷ zero64 ∷ add ∷ Do Drop ∷ End ∷ []) ≡ Refused 2
  pub free_select : verdict (Do Unreachable ∷ Do Select ∷ Do Drop ∷ End ∷ []) ≡ Accepted
  pub free_selected : verdict (Do Unreachable ∷ Do Select ∷ eqz32 ∷ Do Drop ∷ End ∷ []) ≡ Accepted
  pub known_select : verdict (Do Unreachable ∷ zero64 ∷ zero32 ∷ Do Select ∷ eqz32 ∷ Do Drop ∷ End ∷ []) ≡ Refused 4
  pub known_result : verdict (Do Unreachable ∷ eqz32 ∷ eqz64 ∷ Do Drop ∷ End ∷ []) ≡ Refused 2
  pub after_br : verdict (Do (Br 0) ∷ add ∷ Do Drop ∷ End ∷ []) ≡ Accepted
  pub after_return : verdict (Do Return ∷ add ∷ Do Drop ∷ End ∷ []) ≡ Accepted
  pub br_if_leaves : verdict (OpenBlock (Value I32) ∷ Do Unreachable ∷ Do (BrIf 0) ∷ eqz64 ∷ End ∷ Do Drop ∷ End ∷ []) ≡ Refused 3
  pub table_of_two_types : verdict (OpenBlock (Value I32) ∷ Do Unreachable ∷ Do (BrTable (0 ∷ []) 1) ∷ End ∷ Do Drop ∷ End ∷ []) ≡ Refused 2
  -- in a block of its own, code after `unreachable` cannot be reached, but code after the block can
  pub behind_the_block : verdict (OpenBlock Empty ∷ Do Unreachable ∷ End ∷ Do Drop ∷ End ∷ []) ≡ Refused 3
