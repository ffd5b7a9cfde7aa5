-- 2.4 Instructions, as trees, and the tokens of a tree.
use Rattle.std.specs.Prelude.{ℕ, List, [], ◌∷◌, ◌++◌, Bool}
pub use Rattle.wnum.specs.Arithmetic.{Width, Width32, Width64, Unary, Clz, Ctz, Popcnt, Binary, Add, Sub, Mul, DivS, DivU, RemS, RemU, And, Or, Xor, Shl, ShrS, ShrU, Rotl, Rotr, Compare, Eq, Ne, LtS, LtU, GtS, GtU, LeS, LeU, GeS, GeU}
pub use Rattle.wsyntax.specs.declared.instructions.BlockType.{BlockType}
pub use Rattle.wsyntax.specs.declared.instructions.BlockType.TheVariants.{Empty, Value, Index}
use Rattle.wsyntax.specs.declared.instructions.Operator.{Operator}
use Rattle.wsyntax.specs.Types.{ValType}

-- 2.4.1 a numeric instruction. Ours: an integer operator by its width and its operation, a float operator by its name alone; `ExtendLow` is the sign extensions of Core 2.0
pub data NumOp : Type 0 where
  OfOne : Width → Unary → NumOp
  OfTwo : Width → Binary → NumOp
  Eqz : Width → NumOp
  Comparing : Width → Compare → NumOp
  -- i32.wrap_i64, i64.extend_i32_s, i64.extend_i32_u
  Wrap ExtendS ExtendU : NumOp
  -- iN.extend8_s, iN.extend16_s and i64.extend32_s of Core 2.0: the width, and how many of the lowest bits are read with their sign
  ExtendLow : Width → ℕ → NumOp
  FloatOp : Operator → NumOp

-- 2.4.4 memory instructions.

-- 2.4.4 what a load or a store says: the type of the value, the bytes in memory, whether a narrow load copies the sign, the alignment's exponent, the offset. Ours: one record for all of them
pub record Access : Type 0 where
  pub of_type : ValType
  pub width : ℕ
  pub signed : Bool
  pub align : ℕ
  pub offset : ℕ

-- Instructions without a body.

-- 2.4.1 to 2.4.5 an instruction without a body, with its immediates. Ours: a constant is its type and its bits
pub data Op : Type 0 where
  -- 2.4.5 control instructions: br_table has its labels and the default
  Unreachable Nop Return : Op
  Br BrIf Call CallIndirect : ℕ → Op
  BrTable : List ℕ → ℕ → Op
  -- 2.4.2 parametric instructions
  Drop Select : Op
  -- 2.4.3 variable instructions
  LocalGet LocalSet LocalTee GlobalGet GlobalSet : ℕ → Op
  -- 2.4.4 memory instructions
  MemoryLoad MemoryStore : Access → Op
  MemorySize MemoryGrow : Op
  -- 2.4.1 numeric instructions: t.const with its bits, and the operators
  Const : ValType → ℕ → Op
  Numeric : NumOp → Op

-- Instructions with bodies.

-- 2.4.5, 2.4.6 a sequence of instructions; the last argument of each constructor is the rest of the sequence. Ours: `If` is one whose else was not written, `IfElse` one whose else was
pub data Code : Type 0 where
  Stop : Code
  Plain : Op → (rest : Code) → Code
  Block Loop If : BlockType → (body rest : Code) → Code
  IfElse : BlockType → (body other rest : Code) → Code

-- 3.3.6 one sequence, and then another
abbrev pub follow : Code → Code → Code
follow Stop more = more
follow (Plain i rest) more = Plain i (follow rest more)
follow (Block t body rest) more = Block t body (follow rest more)
follow (Loop t body rest) more = Loop t body (follow rest more)
follow (If t body rest) more = If t body (follow rest more)
follow (IfElse t body other rest) more = IfElse t body other (follow rest more)

-- Tokens.

-- 5.4 an instruction without a body, or one of the words that open, part and close the others
pub data Token : Type 0 where
  Do : Op → Token
  OpenBlock OpenLoop OpenIf : BlockType → Token
  Else End : Token

-- 5.4, 2.4.6 the tokens of a sequence
abbrev pub flat : Code → List Token
flat Stop = []
flat (Plain i rest) = Do i ∷ flat rest
flat (Block t body rest) = OpenBlock t ∷ (flat body ++ End ∷ flat rest)
flat (Loop t body rest) = OpenLoop t ∷ (flat body ++ End ∷ flat rest)
flat (If t body rest) = OpenIf t ∷ (flat body ++ End ∷ flat rest)
flat (IfElse t body other rest) = OpenIf t ∷ (flat body ++ Else ∷ (flat other ++ End ∷ flat rest))

-- 2.4.6 the tokens of an expression, as a function's body is one
abbrev pub flat_body : Code → List Token
flat_body code = flat code ++ End ∷ []
