-- 5.4 Instructions, and 5.4.6 expressions.
use Rattle.std.specs.Prelude.{◌≡◌, ℕ, List, [], ◌∷◌, ◌++◌, None}
use Rattle.wnum.specs.Arithmetic.{unsigned}
use Rattle.wsyntax.specs.Types.{I32, I64, F32, F64}
use Rattle.wsyntax.specs.Instructions as tree
use Rattle.wsyntax.specs.Instructions.{Op, Token, Code, flat_body}
use Rattle.wsyntax.specs.Table.{num_op, load_access, store_access, little_endian, opcode_of}
use Rattle.wsyntax.specs.declared.opcode.Opcode.{Opcode}
use Rattle.wsyntax.specs.declared.opcode.Opcode.TheVariants as code
use Rattle.wsyntax.specs.Binary.Production.{Production, byte, given, pure, ◌>>=◌, exactly, raw}
use Rattle.wsyntax.specs.Binary.Values.{u32, s32, s64, vector}
use Rattle.wsyntax.specs.Binary.Types.{block_type}

-- an instruction that has one index or label
abbrev pub with_index : (ℕ → Op) → Production Op
with_index made = u32 >>= λ n. pure (made n)

-- 5.4 what follows an opcode that begins an instruction without a body
abbrev pub immediates : Opcode → Production Op
-- 5.4.1 control instructions; block, loop and if have bodies
immediates code.Unreachable = pure tree.Unreachable
immediates code.Nop = pure tree.Nop
immediates code.Block = given None
immediates code.Loop = given None
immediates code.If = given None
immediates code.Br = with_index tree.Br
immediates code.BrIf = with_index tree.BrIf
immediates code.BrTable = do
  labels ← vector u32
  default ← u32
  pure (tree.BrTable labels default)
immediates code.Return = pure tree.Return
immediates code.Call = with_index tree.Call
immediates code.CallIndirect = do
  y ← u32
  zeroed ← exactly 0x00
  pure (tree.CallIndirect y)
-- 5.4.2 parametric instructions
immediates code.Drop = pure tree.Drop
immediates code.Select = pure tree.Select
-- 5.4.3 variable instructions
immediates code.LocalGet = with_index tree.LocalGet
immediates code.LocalSet = with_index tree.LocalSet
immediates code.LocalTee = with_index tree.LocalTee
immediates code.GlobalGet = with_index tree.GlobalGet
immediates code.GlobalSet = with_index tree.GlobalSet
-- 5.4.4 memory instructions: the alignment's exponent, then the offset
immediates (code.Load l) = do
  align ← u32
  offset ← u32
  pure (tree.MemoryLoad (load_access l align offset))
immediates (code.Store s) = do
  align ← u32
  offset ← u32
  pure (tree.MemoryStore (store_access s align offset))
immediates code.MemorySize = exactly 0x00 >>= λ zeroed. pure tree.MemorySize
immediates code.MemoryGrow = exactly 0x00 >>= λ zeroed. pure tree.MemoryGrow
-- 5.4.5 numeric instructions; 5.2.3 a float is its bytes, the lowest first
immediates code.I32Const = s32 >>= λ n. pure (tree.Const I32 (unsigned 32 n))
immediates code.I64Const = s64 >>= λ n. pure (tree.Const I64 (unsigned 64 n))
immediates code.F32Const = raw 4 >>= λ b. pure (tree.Const F32 (little_endian b))
immediates code.F64Const = raw 8 >>= λ b. pure (tree.Const F64 (little_endian b))
immediates (code.Numeric f) = pure (tree.Numeric (num_op f))

-- 5.4 an instruction without a body. Ours: the opcode is looked up in the table
unfoldable pub plain_instruction : Production Op
plain_instruction = do
  b ← byte
  o ← given (opcode_of b)
  immediates o

-- 5.4.1 a sequence of instructions, by cases on its tree: block and loop end with 0B; if ends with 0B, and may have one 05 before it
abbrev pub SpellsCode : List ℕ → Code → Type 0
SpellsCode bytes tree.Stop = bytes ≡ []
SpellsCode bytes (tree.Plain i rest) = (x y : List ℕ) × (bytes ≡ x ++ y) × plain_instruction.spells x i × SpellsCode y rest
SpellsCode bytes (tree.Block t body rest) = (h x y : List ℕ) × (bytes ≡ 0x02 ∷ (h ++ (x ++ (0x0B ∷ y)))) × block_type.spells h t × SpellsCode x body × SpellsCode y rest
SpellsCode bytes (tree.Loop t body rest) = (h x y : List ℕ) × (bytes ≡ 0x03 ∷ (h ++ (x ++ (0x0B ∷ y)))) × block_type.spells h t × SpellsCode x body × SpellsCode y rest
SpellsCode bytes (tree.If t body rest) = (h x y : List ℕ) × (bytes ≡ 0x04 ∷ (h ++ (x ++ (0x0B ∷ y)))) × block_type.spells h t × SpellsCode x body × SpellsCode y rest
SpellsCode bytes (tree.IfElse t body other rest) = (h x z y : List ℕ) × (bytes ≡ 0x04 ∷ (h ++ (x ++ (0x05 ∷ (z ++ (0x0B ∷ y)))))) × block_type.spells h t × SpellsCode x body × SpellsCode z other × SpellsCode y rest

-- 5.4.6 an expression: a sequence of instructions, and 0B
abbrev pub SpellsExpression : List ℕ → Code → Type 0
SpellsExpression bytes code = (x : List ℕ) × (bytes ≡ x ++ (0x0B ∷ [])) × SpellsCode x code

-- 5.4.6 the tokens of a spelled expression
abbrev pub SpellsTokens : List ℕ → List Token → Type 0
SpellsTokens bytes tokens = (code : Code) × SpellsExpression bytes code × (tokens ≡ flat_body code)
