-- 5.4 The instruction table: what each opcode stands for, and of each operator what it is made of and its type.
use Rattle.std.specs.Prelude.{ℕ, ◌+◌, ◌*◌, List, [], ◌∷◌, Option, Some, None, false, true, slice_get}
use Rattle.wsyntax.specs.Types.{I32, I64, F32, F64, FuncType}
use Rattle.wsyntax.specs.Instructions.{Access, NumOp, OfOne, OfTwo, Eqz, Comparing, Wrap, ExtendS, ExtendU, ExtendLow, FloatOp, Width32, Width64, Clz, Ctz, Popcnt, Add, Sub, Mul, DivS, DivU, RemS, RemU, And, Or, Xor, Shl, ShrS, ShrU, Rotl, Rotr, Eq, Ne, LtS, LtU, GtS, GtU, LeS, LeU, GeS, GeU}
use Rattle.wsyntax.specs.declared.instructions.Operator.{Operator}
use Rattle.wsyntax.specs.declared.instructions.Operator.TheVariants as op
use Rattle.wsyntax.specs.declared.instructions.Load.{Load}
use Rattle.wsyntax.specs.declared.instructions.Load.TheVariants as load
use Rattle.wsyntax.specs.declared.instructions.Store.{Store}
use Rattle.wsyntax.specs.declared.instructions.Store.TheVariants as store
use Rattle.wsyntax.specs.declared.opcode.Opcode.{Opcode}
use Rattle.wsyntax.specs.declared.opcode.Opcode.TheVariants as code

-- 4.3.1 the number that bytes stand for, the lowest first
abbrev pub little_endian : List ℕ → ℕ
little_endian [] = 0
little_endian (b ∷ bs) = b + 256 * little_endian bs

-- 2.4.1 an operator by its width and its operation; a float operator is known by its name alone
abbrev pub num_op : Operator → NumOp
num_op op.I32Eqz = Eqz Width32
num_op op.I32Eq = Comparing Width32 Eq
num_op op.I32Ne = Comparing Width32 Ne
num_op op.I32LtS = Comparing Width32 LtS
num_op op.I32LtU = Comparing Width32 LtU
num_op op.I32GtS = Comparing Width32 GtS
num_op op.I32GtU = Comparing Width32 GtU
num_op op.I32LeS = Comparing Width32 LeS
num_op op.I32LeU = Comparing Width32 LeU
num_op op.I32GeS = Comparing Width32 GeS
num_op op.I32GeU = Comparing Width32 GeU
num_op op.I64Eqz = Eqz Width64
num_op op.I64Eq = Comparing Width64 Eq
num_op op.I64Ne = Comparing Width64 Ne
num_op op.I64LtS = Comparing Width64 LtS
num_op op.I64LtU = Comparing Width64 LtU
num_op op.I64GtS = Comparing Width64 GtS
num_op op.I64GtU = Comparing Width64 GtU
num_op op.I64LeS = Comparing Width64 LeS
num_op op.I64LeU = Comparing Width64 LeU
num_op op.I64GeS = Comparing Width64 GeS
num_op op.I64GeU = Comparing Width64 GeU
num_op op.F32Eq = FloatOp op.F32Eq
num_op op.F32Ne = FloatOp op.F32Ne
num_op op.F32Lt = FloatOp op.F32Lt
num_op op.F32Gt = FloatOp op.F32Gt
num_op op.F32Le = FloatOp op.F32Le
num_op op.F32Ge = FloatOp op.F32Ge
num_op op.F64Eq = FloatOp op.F64Eq
num_op op.F64Ne = FloatOp op.F64Ne
num_op op.F64Lt = FloatOp op.F64Lt
num_op op.F64Gt = FloatOp op.F64Gt
num_op op.F64Le = FloatOp op.F64Le
num_op op.F64Ge = FloatOp op.F64Ge
num_op op.I32Clz = OfOne Width32 Clz
num_op op.I32Ctz = OfOne Width32 Ctz
num_op op.I32Popcnt = OfOne Width32 Popcnt
num_op op.I32Add = OfTwo Width32 Add
num_op op.I32Sub = OfTwo Width32 Sub
num_op op.I32Mul = OfTwo Width32 Mul
num_op op.I32DivS = OfTwo Width32 DivS
num_op op.I32DivU = OfTwo Width32 DivU
num_op op.I32RemS = OfTwo Width32 RemS
num_op op.I32RemU = OfTwo Width32 RemU
num_op op.I32And = OfTwo Width32 And
num_op op.I32Or = OfTwo Width32 Or
num_op op.I32Xor = OfTwo Width32 Xor
num_op op.I32Shl = OfTwo Width32 Shl
num_op op.I32ShrS = OfTwo Width32 ShrS
num_op op.I32ShrU = OfTwo Width32 ShrU
num_op op.I32Rotl = OfTwo Width32 Rotl
num_op op.I32Rotr = OfTwo Width32 Rotr
num_op op.I64Clz = OfOne Width64 Clz
num_op op.I64Ctz = OfOne Width64 Ctz
num_op op.I64Popcnt = OfOne Width64 Popcnt
num_op op.I64Add = OfTwo Width64 Add
num_op op.I64Sub = OfTwo Width64 Sub
num_op op.I64Mul = OfTwo Width64 Mul
num_op op.I64DivS = OfTwo Width64 DivS
num_op op.I64DivU = OfTwo Width64 DivU
num_op op.I64RemS = OfTwo Width64 RemS
num_op op.I64RemU = OfTwo Width64 RemU
num_op op.I64And = OfTwo Width64 And
num_op op.I64Or = OfTwo Width64 Or
num_op op.I64Xor = OfTwo Width64 Xor
num_op op.I64Shl = OfTwo Width64 Shl
num_op op.I64ShrS = OfTwo Width64 ShrS
num_op op.I64ShrU = OfTwo Width64 ShrU
num_op op.I64Rotl = OfTwo Width64 Rotl
num_op op.I64Rotr = OfTwo Width64 Rotr
num_op op.F32Abs = FloatOp op.F32Abs
num_op op.F32Neg = FloatOp op.F32Neg
num_op op.F32Ceil = FloatOp op.F32Ceil
num_op op.F32Floor = FloatOp op.F32Floor
num_op op.F32Trunc = FloatOp op.F32Trunc
num_op op.F32Nearest = FloatOp op.F32Nearest
num_op op.F32Sqrt = FloatOp op.F32Sqrt
num_op op.F32Add = FloatOp op.F32Add
num_op op.F32Sub = FloatOp op.F32Sub
num_op op.F32Mul = FloatOp op.F32Mul
num_op op.F32Div = FloatOp op.F32Div
num_op op.F32Min = FloatOp op.F32Min
num_op op.F32Max = FloatOp op.F32Max
num_op op.F32Copysign = FloatOp op.F32Copysign
num_op op.F64Abs = FloatOp op.F64Abs
num_op op.F64Neg = FloatOp op.F64Neg
num_op op.F64Ceil = FloatOp op.F64Ceil
num_op op.F64Floor = FloatOp op.F64Floor
num_op op.F64Trunc = FloatOp op.F64Trunc
num_op op.F64Nearest = FloatOp op.F64Nearest
num_op op.F64Sqrt = FloatOp op.F64Sqrt
num_op op.F64Add = FloatOp op.F64Add
num_op op.F64Sub = FloatOp op.F64Sub
num_op op.F64Mul = FloatOp op.F64Mul
num_op op.F64Div = FloatOp op.F64Div
num_op op.F64Min = FloatOp op.F64Min
num_op op.F64Max = FloatOp op.F64Max
num_op op.F64Copysign = FloatOp op.F64Copysign
num_op op.I32WrapI64 = Wrap
num_op op.I32TruncF32S = FloatOp op.I32TruncF32S
num_op op.I32TruncF32U = FloatOp op.I32TruncF32U
num_op op.I32TruncF64S = FloatOp op.I32TruncF64S
num_op op.I32TruncF64U = FloatOp op.I32TruncF64U
num_op op.I64ExtendI32S = ExtendS
num_op op.I64ExtendI32U = ExtendU
num_op op.I64TruncF32S = FloatOp op.I64TruncF32S
num_op op.I64TruncF32U = FloatOp op.I64TruncF32U
num_op op.I64TruncF64S = FloatOp op.I64TruncF64S
num_op op.I64TruncF64U = FloatOp op.I64TruncF64U
num_op op.F32ConvertI32S = FloatOp op.F32ConvertI32S
num_op op.F32ConvertI32U = FloatOp op.F32ConvertI32U
num_op op.F32ConvertI64S = FloatOp op.F32ConvertI64S
num_op op.F32ConvertI64U = FloatOp op.F32ConvertI64U
num_op op.F32DemoteF64 = FloatOp op.F32DemoteF64
num_op op.F64ConvertI32S = FloatOp op.F64ConvertI32S
num_op op.F64ConvertI32U = FloatOp op.F64ConvertI32U
num_op op.F64ConvertI64S = FloatOp op.F64ConvertI64S
num_op op.F64ConvertI64U = FloatOp op.F64ConvertI64U
num_op op.F64PromoteF32 = FloatOp op.F64PromoteF32
num_op op.I32ReinterpretF32 = FloatOp op.I32ReinterpretF32
num_op op.I64ReinterpretF64 = FloatOp op.I64ReinterpretF64
num_op op.F32ReinterpretI32 = FloatOp op.F32ReinterpretI32
num_op op.F64ReinterpretI64 = FloatOp op.F64ReinterpretI64
num_op op.I32Extend8S = ExtendLow Width32 8
num_op op.I32Extend16S = ExtendLow Width32 16
num_op op.I64Extend8S = ExtendLow Width64 8
num_op op.I64Extend16S = ExtendLow Width64 16
num_op op.I64Extend32S = ExtendLow Width64 32

-- 3.3.1 the type of a float operator, as it is written; the other operators have theirs by their width. Ours: float instructions are typed and never executed
abbrev pub float_type : Operator → FuncType
float_type op.F32Eq = record { params = F32 ∷ F32 ∷ []; results = I32 ∷ [] }
float_type op.F32Ne = record { params = F32 ∷ F32 ∷ []; results = I32 ∷ [] }
float_type op.F32Lt = record { params = F32 ∷ F32 ∷ []; results = I32 ∷ [] }
float_type op.F32Gt = record { params = F32 ∷ F32 ∷ []; results = I32 ∷ [] }
float_type op.F32Le = record { params = F32 ∷ F32 ∷ []; results = I32 ∷ [] }
float_type op.F32Ge = record { params = F32 ∷ F32 ∷ []; results = I32 ∷ [] }
float_type op.F64Eq = record { params = F64 ∷ F64 ∷ []; results = I32 ∷ [] }
float_type op.F64Ne = record { params = F64 ∷ F64 ∷ []; results = I32 ∷ [] }
float_type op.F64Lt = record { params = F64 ∷ F64 ∷ []; results = I32 ∷ [] }
float_type op.F64Gt = record { params = F64 ∷ F64 ∷ []; results = I32 ∷ [] }
float_type op.F64Le = record { params = F64 ∷ F64 ∷ []; results = I32 ∷ [] }
float_type op.F64Ge = record { params = F64 ∷ F64 ∷ []; results = I32 ∷ [] }
float_type op.F32Abs = record { params = F32 ∷ []; results = F32 ∷ [] }
float_type op.F32Neg = record { params = F32 ∷ []; results = F32 ∷ [] }
float_type op.F32Ceil = record { params = F32 ∷ []; results = F32 ∷ [] }
float_type op.F32Floor = record { params = F32 ∷ []; results = F32 ∷ [] }
float_type op.F32Trunc = record { params = F32 ∷ []; results = F32 ∷ [] }
float_type op.F32Nearest = record { params = F32 ∷ []; results = F32 ∷ [] }
float_type op.F32Sqrt = record { params = F32 ∷ []; results = F32 ∷ [] }
float_type op.F32Add = record { params = F32 ∷ F32 ∷ []; results = F32 ∷ [] }
float_type op.F32Sub = record { params = F32 ∷ F32 ∷ []; results = F32 ∷ [] }
float_type op.F32Mul = record { params = F32 ∷ F32 ∷ []; results = F32 ∷ [] }
float_type op.F32Div = record { params = F32 ∷ F32 ∷ []; results = F32 ∷ [] }
float_type op.F32Min = record { params = F32 ∷ F32 ∷ []; results = F32 ∷ [] }
float_type op.F32Max = record { params = F32 ∷ F32 ∷ []; results = F32 ∷ [] }
float_type op.F32Copysign = record { params = F32 ∷ F32 ∷ []; results = F32 ∷ [] }
float_type op.F64Abs = record { params = F64 ∷ []; results = F64 ∷ [] }
float_type op.F64Neg = record { params = F64 ∷ []; results = F64 ∷ [] }
float_type op.F64Ceil = record { params = F64 ∷ []; results = F64 ∷ [] }
float_type op.F64Floor = record { params = F64 ∷ []; results = F64 ∷ [] }
float_type op.F64Trunc = record { params = F64 ∷ []; results = F64 ∷ [] }
float_type op.F64Nearest = record { params = F64 ∷ []; results = F64 ∷ [] }
float_type op.F64Sqrt = record { params = F64 ∷ []; results = F64 ∷ [] }
float_type op.F64Add = record { params = F64 ∷ F64 ∷ []; results = F64 ∷ [] }
float_type op.F64Sub = record { params = F64 ∷ F64 ∷ []; results = F64 ∷ [] }
float_type op.F64Mul = record { params = F64 ∷ F64 ∷ []; results = F64 ∷ [] }
float_type op.F64Div = record { params = F64 ∷ F64 ∷ []; results = F64 ∷ [] }
float_type op.F64Min = record { params = F64 ∷ F64 ∷ []; results = F64 ∷ [] }
float_type op.F64Max = record { params = F64 ∷ F64 ∷ []; results = F64 ∷ [] }
float_type op.F64Copysign = record { params = F64 ∷ F64 ∷ []; results = F64 ∷ [] }
float_type op.I32TruncF32S = record { params = F32 ∷ []; results = I32 ∷ [] }
float_type op.I32TruncF32U = record { params = F32 ∷ []; results = I32 ∷ [] }
float_type op.I32TruncF64S = record { params = F64 ∷ []; results = I32 ∷ [] }
float_type op.I32TruncF64U = record { params = F64 ∷ []; results = I32 ∷ [] }
float_type op.I64TruncF32S = record { params = F32 ∷ []; results = I64 ∷ [] }
float_type op.I64TruncF32U = record { params = F32 ∷ []; results = I64 ∷ [] }
float_type op.I64TruncF64S = record { params = F64 ∷ []; results = I64 ∷ [] }
float_type op.I64TruncF64U = record { params = F64 ∷ []; results = I64 ∷ [] }
float_type op.F32ConvertI32S = record { params = I32 ∷ []; results = F32 ∷ [] }
float_type op.F32ConvertI32U = record { params = I32 ∷ []; results = F32 ∷ [] }
float_type op.F32ConvertI64S = record { params = I64 ∷ []; results = F32 ∷ [] }
float_type op.F32ConvertI64U = record { params = I64 ∷ []; results = F32 ∷ [] }
float_type op.F32DemoteF64 = record { params = F64 ∷ []; results = F32 ∷ [] }
float_type op.F64ConvertI32S = record { params = I32 ∷ []; results = F64 ∷ [] }
float_type op.F64ConvertI32U = record { params = I32 ∷ []; results = F64 ∷ [] }
float_type op.F64ConvertI64S = record { params = I64 ∷ []; results = F64 ∷ [] }
float_type op.F64ConvertI64U = record { params = I64 ∷ []; results = F64 ∷ [] }
float_type op.F64PromoteF32 = record { params = F32 ∷ []; results = F64 ∷ [] }
float_type op.I32ReinterpretF32 = record { params = F32 ∷ []; results = I32 ∷ [] }
float_type op.I64ReinterpretF64 = record { params = F64 ∷ []; results = I64 ∷ [] }
float_type op.F32ReinterpretI32 = record { params = I32 ∷ []; results = F32 ∷ [] }
float_type op.F64ReinterpretI64 = record { params = I64 ∷ []; results = F64 ∷ [] }
float_type _ = record { params = []; results = [] }

-- 2.4.4 what a load says: the type of the value, the bytes in memory, whether it copies the sign, alignment and offset
abbrev pub load_access : Load → ℕ → ℕ → Access
load_access load.I32Load align offset = record { of_type = I32; width = 4; signed = false; align = align; offset = offset }
load_access load.I64Load align offset = record { of_type = I64; width = 8; signed = false; align = align; offset = offset }
load_access load.F32Load align offset = record { of_type = F32; width = 4; signed = false; align = align; offset = offset }
load_access load.F64Load align offset = record { of_type = F64; width = 8; signed = false; align = align; offset = offset }
load_access load.I32Load8S align offset = record { of_type = I32; width = 1; signed = true; align = align; offset = offset }
load_access load.I32Load8U align offset = record { of_type = I32; width = 1; signed = false; align = align; offset = offset }
load_access load.I32Load16S align offset = record { of_type = I32; width = 2; signed = true; align = align; offset = offset }
load_access load.I32Load16U align offset = record { of_type = I32; width = 2; signed = false; align = align; offset = offset }
load_access load.I64Load8S align offset = record { of_type = I64; width = 1; signed = true; align = align; offset = offset }
load_access load.I64Load8U align offset = record { of_type = I64; width = 1; signed = false; align = align; offset = offset }
load_access load.I64Load16S align offset = record { of_type = I64; width = 2; signed = true; align = align; offset = offset }
load_access load.I64Load16U align offset = record { of_type = I64; width = 2; signed = false; align = align; offset = offset }
load_access load.I64Load32S align offset = record { of_type = I64; width = 4; signed = true; align = align; offset = offset }
load_access load.I64Load32U align offset = record { of_type = I64; width = 4; signed = false; align = align; offset = offset }

-- 2.4.4 what a store says
abbrev pub store_access : Store → ℕ → ℕ → Access
store_access store.I32Store align offset = record { of_type = I32; width = 4; signed = false; align = align; offset = offset }
store_access store.I64Store align offset = record { of_type = I64; width = 8; signed = false; align = align; offset = offset }
store_access store.F32Store align offset = record { of_type = F32; width = 4; signed = false; align = align; offset = offset }
store_access store.F64Store align offset = record { of_type = F64; width = 8; signed = false; align = align; offset = offset }
store_access store.I32Store8 align offset = record { of_type = I32; width = 1; signed = false; align = align; offset = offset }
store_access store.I32Store16 align offset = record { of_type = I32; width = 2; signed = false; align = align; offset = offset }
store_access store.I64Store8 align offset = record { of_type = I64; width = 1; signed = false; align = align; offset = offset }
store_access store.I64Store16 align offset = record { of_type = I64; width = 2; signed = false; align = align; offset = offset }
store_access store.I64Store32 align offset = record { of_type = I64; width = 4; signed = false; align = align; offset = offset }

-- 5.4 the opcodes in their order, eight a line; no instruction begins with the others: 05 parts an if, 0B closes a block
abbrev pub opcodes : List (Option Opcode)
opcodes =
    -- 00
    Some code.Unreachable ∷ Some code.Nop ∷ Some code.Block ∷ Some code.Loop ∷ Some code.If ∷ None ∷ None ∷ None ∷
    -- 08
    None ∷ None ∷ None ∷ None ∷ Some code.Br ∷ Some code.BrIf ∷ Some code.BrTable ∷ Some code.Return ∷
    -- 10
    Some code.Call ∷ Some code.CallIndirect ∷ None ∷ None ∷ None ∷ None ∷ None ∷ None ∷
    -- 18
    None ∷ None ∷ Some code.Drop ∷ Some code.Select ∷ None ∷ None ∷ None ∷ None ∷
    -- 20
    Some code.LocalGet ∷ Some code.LocalSet ∷ Some code.LocalTee ∷ Some code.GlobalGet ∷ Some code.GlobalSet ∷ None ∷ None ∷ None ∷
    -- 28
    Some (code.Load load.I32Load) ∷ Some (code.Load load.I64Load) ∷ Some (code.Load load.F32Load) ∷ Some (code.Load load.F64Load) ∷ Some (code.Load load.I32Load8S) ∷ Some (code.Load load.I32Load8U) ∷ Some (code.Load load.I32Load16S) ∷ Some (code.Load load.I32Load16U) ∷
    -- 30
    Some (code.Load load.I64Load8S) ∷ Some (code.Load load.I64Load8U) ∷ Some (code.Load load.I64Load16S) ∷ Some (code.Load load.I64Load16U) ∷ Some (code.Load load.I64Load32S) ∷ Some (code.Load load.I64Load32U) ∷ Some (code.Store store.I32Store) ∷ Some (code.Store store.I64Store) ∷
    -- 38
    Some (code.Store store.F32Store) ∷ Some (code.Store store.F64Store) ∷ Some (code.Store store.I32Store8) ∷ Some (code.Store store.I32Store16) ∷ Some (code.Store store.I64Store8) ∷ Some (code.Store store.I64Store16) ∷ Some (code.Store store.I64Store32) ∷ Some code.MemorySize ∷
    -- 40
    Some code.MemoryGrow ∷ Some code.I32Const ∷ Some code.I64Const ∷ Some code.F32Const ∷ Some code.F64Const ∷ Some (code.Numeric op.I32Eqz) ∷ Some (code.Numeric op.I32Eq) ∷ Some (code.Numeric op.I32Ne) ∷
    -- 48
    Some (code.Numeric op.I32LtS) ∷ Some (code.Numeric op.I32LtU) ∷ Some (code.Numeric op.I32GtS) ∷ Some (code.Numeric op.I32GtU) ∷ Some (code.Numeric op.I32LeS) ∷ Some (code.Numeric op.I32LeU) ∷ Some (code.Numeric op.I32GeS) ∷ Some (code.Numeric op.I32GeU) ∷
    -- 50
    Some (code.Numeric op.I64Eqz) ∷ Some (code.Numeric op.I64Eq) ∷ Some (code.Numeric op.I64Ne) ∷ Some (code.Numeric op.I64LtS) ∷ Some (code.Numeric op.I64LtU) ∷ Some (code.Numeric op.I64GtS) ∷ Some (code.Numeric op.I64GtU) ∷ Some (code.Numeric op.I64LeS) ∷
    -- 58
    Some (code.Numeric op.I64LeU) ∷ Some (code.Numeric op.I64GeS) ∷ Some (code.Numeric op.I64GeU) ∷ Some (code.Numeric op.F32Eq) ∷ Some (code.Numeric op.F32Ne) ∷ Some (code.Numeric op.F32Lt) ∷ Some (code.Numeric op.F32Gt) ∷ Some (code.Numeric op.F32Le) ∷
    -- 60
    Some (code.Numeric op.F32Ge) ∷ Some (code.Numeric op.F64Eq) ∷ Some (code.Numeric op.F64Ne) ∷ Some (code.Numeric op.F64Lt) ∷ Some (code.Numeric op.F64Gt) ∷ Some (code.Numeric op.F64Le) ∷ Some (code.Numeric op.F64Ge) ∷ Some (code.Numeric op.I32Clz) ∷
    -- 68
    Some (code.Numeric op.I32Ctz) ∷ Some (code.Numeric op.I32Popcnt) ∷ Some (code.Numeric op.I32Add) ∷ Some (code.Numeric op.I32Sub) ∷ Some (code.Numeric op.I32Mul) ∷ Some (code.Numeric op.I32DivS) ∷ Some (code.Numeric op.I32DivU) ∷ Some (code.Numeric op.I32RemS) ∷
    -- 70
    Some (code.Numeric op.I32RemU) ∷ Some (code.Numeric op.I32And) ∷ Some (code.Numeric op.I32Or) ∷ Some (code.Numeric op.I32Xor) ∷ Some (code.Numeric op.I32Shl) ∷ Some (code.Numeric op.I32ShrS) ∷ Some (code.Numeric op.I32ShrU) ∷ Some (code.Numeric op.I32Rotl) ∷
    -- 78
    Some (code.Numeric op.I32Rotr) ∷ Some (code.Numeric op.I64Clz) ∷ Some (code.Numeric op.I64Ctz) ∷ Some (code.Numeric op.I64Popcnt) ∷ Some (code.Numeric op.I64Add) ∷ Some (code.Numeric op.I64Sub) ∷ Some (code.Numeric op.I64Mul) ∷ Some (code.Numeric op.I64DivS) ∷
    -- 80
    Some (code.Numeric op.I64DivU) ∷ Some (code.Numeric op.I64RemS) ∷ Some (code.Numeric op.I64RemU) ∷ Some (code.Numeric op.I64And) ∷ Some (code.Numeric op.I64Or) ∷ Some (code.Numeric op.I64Xor) ∷ Some (code.Numeric op.I64Shl) ∷ Some (code.Numeric op.I64ShrS) ∷
    -- 88
    Some (code.Numeric op.I64ShrU) ∷ Some (code.Numeric op.I64Rotl) ∷ Some (code.Numeric op.I64Rotr) ∷ Some (code.Numeric op.F32Abs) ∷ Some (code.Numeric op.F32Neg) ∷ Some (code.Numeric op.F32Ceil) ∷ Some (code.Numeric op.F32Floor) ∷ Some (code.Numeric op.F32Trunc) ∷
    -- 90
    Some (code.Numeric op.F32Nearest) ∷ Some (code.Numeric op.F32Sqrt) ∷ Some (code.Numeric op.F32Add) ∷ Some (code.Numeric op.F32Sub) ∷ Some (code.Numeric op.F32Mul) ∷ Some (code.Numeric op.F32Div) ∷ Some (code.Numeric op.F32Min) ∷ Some (code.Numeric op.F32Max) ∷
    -- 98
    Some (code.Numeric op.F32Copysign) ∷ Some (code.Numeric op.F64Abs) ∷ Some (code.Numeric op.F64Neg) ∷ Some (code.Numeric op.F64Ceil) ∷ Some (code.Numeric op.F64Floor) ∷ Some (code.Numeric op.F64Trunc) ∷ Some (code.Numeric op.F64Nearest) ∷ Some (code.Numeric op.F64Sqrt) ∷
    -- A0
    Some (code.Numeric op.F64Add) ∷ Some (code.Numeric op.F64Sub) ∷ Some (code.Numeric op.F64Mul) ∷ Some (code.Numeric op.F64Div) ∷ Some (code.Numeric op.F64Min) ∷ Some (code.Numeric op.F64Max) ∷ Some (code.Numeric op.F64Copysign) ∷ Some (code.Numeric op.I32WrapI64) ∷
    -- A8
    Some (code.Numeric op.I32TruncF32S) ∷ Some (code.Numeric op.I32TruncF32U) ∷ Some (code.Numeric op.I32TruncF64S) ∷ Some (code.Numeric op.I32TruncF64U) ∷ Some (code.Numeric op.I64ExtendI32S) ∷ Some (code.Numeric op.I64ExtendI32U) ∷ Some (code.Numeric op.I64TruncF32S) ∷ Some (code.Numeric op.I64TruncF32U) ∷
    -- B0
    Some (code.Numeric op.I64TruncF64S) ∷ Some (code.Numeric op.I64TruncF64U) ∷ Some (code.Numeric op.F32ConvertI32S) ∷ Some (code.Numeric op.F32ConvertI32U) ∷ Some (code.Numeric op.F32ConvertI64S) ∷ Some (code.Numeric op.F32ConvertI64U) ∷ Some (code.Numeric op.F32DemoteF64) ∷ Some (code.Numeric op.F64ConvertI32S) ∷
    -- B8
    Some (code.Numeric op.F64ConvertI32U) ∷ Some (code.Numeric op.F64ConvertI64S) ∷ Some (code.Numeric op.F64ConvertI64U) ∷ Some (code.Numeric op.F64PromoteF32) ∷ Some (code.Numeric op.I32ReinterpretF32) ∷ Some (code.Numeric op.I64ReinterpretF64) ∷ Some (code.Numeric op.F32ReinterpretI32) ∷ Some (code.Numeric op.F64ReinterpretI64) ∷
    -- C0, of Core 2.0
    Some (code.Numeric op.I32Extend8S) ∷ Some (code.Numeric op.I32Extend16S) ∷ Some (code.Numeric op.I64Extend8S) ∷ Some (code.Numeric op.I64Extend16S) ∷ Some (code.Numeric op.I64Extend32S) ∷ None ∷ None ∷ None ∷
    []

-- what stands there, where something does
abbrev pub there : Option (Option Opcode) → Option Opcode
there None = None
there (Some o) = o

-- 5.4 what an opcode names
unfoldable pub opcode_of : ℕ → Option Opcode
opcode_of byte = there (slice_get opcodes byte)
