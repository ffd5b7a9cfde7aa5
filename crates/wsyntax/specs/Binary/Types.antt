-- 5.3 Types.
use Rattle.std.specs.Prelude.{ℕ, zero, suc, ℤ, pos, negsuc, Bool, true, false, Option, Some, None, ◌==◌, if◌then◌else◌}
use Rattle.wnum.specs.Reading as reading
use Rattle.wsyntax.specs.Types.{ValType, I32, I64, F32, F64, FuncType, Limits, GlobalType}
use Rattle.wsyntax.specs.Instructions.{BlockType, Empty, Value, Index}
use Rattle.wsyntax.specs.declared.module.Table.{Table}
use Rattle.wsyntax.specs.Binary.Production.{Production, byte, given, pure, ◌>>=◌, exactly, either}
use Rattle.wsyntax.specs.Binary.Values.{u32, s33, vector}

-- 5.3.1 value types
abbrev pub val_type_of : ℕ → Option ValType
val_type_of b = if b == 0x7F then Some I32 else if b == 0x7E then Some I64 else if b == 0x7D then Some F32 else if b == 0x7C then Some F64 else None

-- 5.3.1 a value type
unfoldable pub val_type : Production ValType
val_type = byte >>= λ b. given (val_type_of b)

-- 5.3.2 result types, as block types have them: empty, or one value type
abbrev pub block_type_of : ℕ → Option BlockType
block_type_of b = if b == 0x40 then Some Empty else reading.◌>>=◌ (val_type_of b) (λ t. Some (Value t))

-- the index of a type is not negative
abbrev pub index_of : ℤ → Option BlockType
index_of (pos y) = Some (Index y)
index_of (negsuc y) = None

-- 5.3.2 a block type. Ours: as in 5.4.1 of Core 2.0, empty, one value type, or the index of a type, which is a number s33 that is not negative
unfoldable pub block_type : Production BlockType
block_type = either (byte >>= λ b. given (block_type_of b)) (s33 >>= λ z. given (index_of z))

-- 5.3.3 a function type
unfoldable pub func_type : Production FuncType
func_type = do
  tag ← exactly 0x60
  params ← vector val_type
  results ← vector val_type
  pure (record { params = params; results = results })

-- 5.3.4 limits: with no maximum, or with one; and 5.3.5 memory types, which are limits
abbrev pub limits_of : ℕ → Production Limits
limits_of zero = do
  n ← u32
  pure (record { min = n; max = None })
limits_of (suc zero) = do
  n ← u32
  m ← u32
  pure (record { min = n; max = Some m })
limits_of (suc (suc tag)) = given None

-- 5.3.4 limits
unfoldable pub limits : Production Limits
limits = byte >>= limits_of

-- 5.3.6 a table type
unfoldable pub table_type : Production Table
table_type = do
  tag ← exactly 0x70
  l ← limits
  pure (record { limits = l })

-- 5.3.7 global types: const or var
abbrev pub mutable_of : ℕ → Option Bool
mutable_of b = if b == 0x00 then Some false else if b == 0x01 then Some true else None

-- 5.3.7 a global type
unfoldable pub global_type : Production GlobalType
global_type = do
  t ← val_type
  b ← byte
  m ← given (mutable_of b)
  pure (record { val_type = t; mutable = m })
