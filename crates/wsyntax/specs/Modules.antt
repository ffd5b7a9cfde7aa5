-- 2.5 Modules, without where they lie in memory; and what the tokens of the code stand for.
use Rattle.std.specs.Prelude.{ℕ, ◌+◌, List, [], ◌∷◌, map, Option, Some, None, slice_range, slice_index_or}
use Rattle.wnum.specs.Arithmetic.{unsigned}
use Rattle.wsyntax.specs.Types.{I32, I64, F32, F64, FuncType, Limits, GlobalType}
use Rattle.wsyntax.specs.Instructions.{Token, Do, OpenBlock, OpenLoop, OpenIf, Else, End, Unreachable, Nop, Return, Br, BrIf, Call, CallIndirect, BrTable, Drop, Select, LocalGet, LocalSet, LocalTee, GlobalGet, GlobalSet, MemoryLoad, MemoryStore, MemorySize, MemoryGrow, Const, Numeric}
use Rattle.wsyntax.specs.Table.{num_op, load_access, store_access, little_endian}
use Rattle.wsyntax.specs.declared.instructions.BranchTarget.TheVariants.{Short}
use Rattle.wsyntax.specs.declared.instructions.Token.{Token as Flat}
use Rattle.wsyntax.specs.declared.instructions.Token.TheVariants as flat
use Rattle.wsyntax.specs.HeldElement.{HeldElement}
use Rattle.wsyntax.specs.declared.module.Module.{Module}
use Rattle.wsyntax.specs.declared.module.Expression.{Expression}
use Rattle.wsyntax.specs.declared.module.ConstExpr.{ConstExpr}
use Rattle.wsyntax.specs.declared.module.ConstExpr.TheVariants as initial
use Rattle.wsyntax.specs.Initials.{tokens_read}
use Rattle.wsyntax.specs.declared.module.Table.{Table}
use Rattle.wsyntax.specs.declared.module.Global.{Global}
use Rattle.wsyntax.specs.declared.module.Data.{Data}
use Rattle.wsyntax.specs.declared.module.ExportKind.{ExportKind}
use Rattle.wsyntax.specs.declared.module.Export.{Export}
use Rattle.wsyntax.specs.declared.module.ImportKind.{ImportKind}
use Rattle.wsyntax.specs.declared.module.Import.{Import}
use Rattle.wsyntax.specs.declared.module.LocalRun.{LocalRun}
use Rattle.wsyntax.specs.declared.module.Body.{Body}

-- Tokens.

-- 2.4 the token of a tree that a token of the code stands for, whatever the check has written into it; a branch table's labels lie in the list of targets, its default after them
abbrev pub decoded_as : List ℕ → Flat → Token
decoded_as targets flat.Unreachable = Do Unreachable
decoded_as targets flat.Nop = Do Nop
decoded_as targets (flat.Block t) = OpenBlock t
decoded_as targets (flat.Loop t) = OpenLoop t
decoded_as targets (flat.If t target) = OpenIf t
decoded_as targets (flat.Else target) = Else
decoded_as targets flat.End = End
decoded_as targets (flat.Br l) = Do (Br l.index)
decoded_as targets (flat.BrIf l) = Do (BrIf l.index)
decoded_as targets (flat.BrTable count first) = Do (BrTable (slice_range targets first (first + count)) (slice_index_or targets (first + count) 0))
decoded_as targets flat.Return = Do Return
decoded_as targets (flat.Call f) = Do (Call f)
decoded_as targets (flat.CallIndirect y) = Do (CallIndirect y)
decoded_as targets flat.Drop = Do Drop
decoded_as targets flat.Select = Do Select
decoded_as targets (flat.LocalGet x) = Do (LocalGet x)
decoded_as targets (flat.LocalSet x) = Do (LocalSet x)
decoded_as targets (flat.LocalTee x) = Do (LocalTee x)
decoded_as targets (flat.GlobalGet x) = Do (GlobalGet x)
decoded_as targets (flat.GlobalSet x) = Do (GlobalSet x)
decoded_as targets (flat.Load l align offset) = Do (MemoryLoad (load_access l align offset))
decoded_as targets (flat.Store s align offset) = Do (MemoryStore (store_access s align offset))
decoded_as targets flat.MemorySize = Do MemorySize
decoded_as targets flat.MemoryGrow = Do MemoryGrow
decoded_as targets (flat.I32Const n) = Do (Const I32 (unsigned 32 n))
decoded_as targets (flat.I64Const n) = Do (Const I64 (unsigned 64 n))
decoded_as targets (flat.F32Const bytes) = Do (Const F32 (little_endian bytes))
decoded_as targets (flat.F64Const bytes) = Do (Const F64 (little_endian bytes))
decoded_as targets (flat.Numeric f) = Do (Numeric (num_op f))

-- the token without what the check of its body writes into it
abbrev pub unresolved : Flat → Flat
unresolved (flat.If t target) = flat.If t 0
unresolved (flat.Else target) = flat.Else 0
unresolved (flat.Br l) = flat.Br (record { index = l.index; destination = Short 0 0 0 })
unresolved (flat.BrIf l) = flat.BrIf (record { index = l.index; destination = Short 0 0 0 })
unresolved t = t

-- 2.4.6 the tokens that an expression of the code holds
abbrev pub tokens_of : Expression → List Token
tokens_of e = map (decoded_as e.targets.items) e.tokens.items

-- 3.3.7.2 the instruction of an expression of one constant, or of one global.get
abbrev pub constant_instruction : ConstExpr → Option Flat
constant_instruction (initial.I32Const n) = Some (flat.I32Const n)
constant_instruction (initial.I64Const n) = Some (flat.I64Const n)
constant_instruction (initial.F32Const bytes) = Some (flat.F32Const bytes)
constant_instruction (initial.F64Const bytes) = Some (flat.F64Const bytes)
constant_instruction (initial.GlobalGet x) = Some (flat.GlobalGet x)
constant_instruction (initial.Other e) = None

-- 2.5.6 to 2.5.8 the tokens of the expression of a first value or an offset
abbrev pub initial_tokens : ConstExpr → List Token
initial_tokens (initial.I32Const n) = decoded_as [] (flat.I32Const n) ∷ End ∷ []
initial_tokens (initial.I64Const n) = decoded_as [] (flat.I64Const n) ∷ End ∷ []
initial_tokens (initial.F32Const bytes) = decoded_as [] (flat.F32Const bytes) ∷ End ∷ []
initial_tokens (initial.F64Const bytes) = decoded_as [] (flat.F64Const bytes) ∷ End ∷ []
initial_tokens (initial.GlobalGet x) = decoded_as [] (flat.GlobalGet x) ∷ End ∷ []
initial_tokens (initial.Other e) = tokens_read e.bytes.now

-- 2.5 modules.

-- 2.5.11 an import
pub record ImportShape : Type 0 where
  pub module_name : List ℕ
  pub item_name : List ℕ
  pub kind : ImportKind

-- 2.5.11 what an import of the code means
abbrev pub import_shape : Import → ImportShape
import_shape i = record { module_name = i.«module».now; item_name = i.name.now; kind = i.kind }

-- 2.5.10 an export
pub record ExportShape : Type 0 where
  pub item_name : List ℕ
  pub kind : ExportKind
  pub index : ℕ

-- 2.5.10 what an export of the code means
abbrev pub export_shape : Export → ExportShape
export_shape e = record { item_name = e.name.now; kind = e.kind; index = e.index }

-- 2.5.6 a global, its first value as the tokens of an expression
pub record GlobalShape : Type 0 where
  pub global_type : GlobalType
  pub init : List Token

-- 2.5.6 what a global of the code means
abbrev pub global_shape : Global → GlobalShape
global_shape g = record { global_type = g.global_type; init = initial_tokens g.init }

-- 2.5.7 an element segment
pub record ElementShape : Type 0 where
  pub table : ℕ
  pub offset : List Token
  pub functions : List ℕ

-- 2.5.7 what an element segment of the code means
abbrev pub element_shape : HeldElement → ElementShape
element_shape e = record { table = e.table; offset = initial_tokens e.offset; functions = e.functions }

-- 2.5.8 a data segment
pub record DataShape : Type 0 where
  pub memory : ℕ
  pub offset : List Token
  pub bytes : List ℕ

-- 2.5.8 what a data segment of the code means
abbrev pub data_shape : Data → DataShape
data_shape d = record { memory = d.memory; offset = initial_tokens d.offset; bytes = d.bytes.now }

-- 2.5.3 a body: runs of declared locals, and the tokens of its expression
pub record BodyShape : Type 0 where
  pub runs : List LocalRun
  pub code : List Token

-- 2.5.3 what a body of the code means
abbrev pub body_shape : Body → BodyShape
body_shape b = record { runs = b.runs.items; code = tokens_of b.code }

-- 2.5 a module. Ours: its bodies are left as bytes
pub record ModuleShape : Type 0 where
  pub types : List FuncType
  pub imports : List ImportShape
  -- of each defined function the index of its type
  pub functions : List ℕ
  pub tables : List Table
  pub memories : List Limits
  pub globals : List GlobalShape
  pub exports : List ExportShape
  pub start : Option ℕ
  pub elements : List ElementShape
  pub bodies : List (List ℕ)
  pub segments : List DataShape

-- 2.5 what a module of the code means, wherever it lies in memory
abbrev pub module_shape : Module → ModuleShape
module_shape m = record {
  types = m.types;
  imports = map import_shape m.imports.items;
  functions = m.functions.items;
  tables = m.tables.items;
  memories = m.memories.items;
  globals = map global_shape m.globals.items;
  exports = map export_shape m.exports.items;
  start = m.start;
  elements = map element_shape m.elements;
  bodies = map (λ s. s.now) m.bodies.items;
  segments = map data_shape m.«data».items;
}
