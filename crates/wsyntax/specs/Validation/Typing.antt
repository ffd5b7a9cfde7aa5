-- 3.3 The typing of instructions. Stacks are written from the topmost operand on, so `[t* r]` of the standard is `r ++ t`.
use Rattle.std.specs.Prelude.{◌≡◌, ◌^◌, ◌≤◌, IsTrue, List, [], ◌∷◌, ◌++◌, Some, slice_get, All, reverse}
use Rattle.wsyntax.specs.Types.{ValType, I32, I64, FuncType, GlobalType}
use Rattle.wsyntax.specs.Instructions.{Width, Width32, Width64, NumOp, OfOne, OfTwo, Eqz, Comparing, Wrap, ExtendS, ExtendU, ExtendLow, FloatOp, Op, Unreachable, Nop, Return, Br, BrIf, Call, CallIndirect, BrTable, Drop, Select, LocalGet, LocalSet, LocalTee, GlobalGet, GlobalSet, MemoryLoad, MemoryStore, MemorySize, MemoryGrow, Const, Numeric, Code, Stop, Plain, Block, Loop, If, IfElse}
use Rattle.wsyntax.specs.Table.{float_type}
use Rattle.wsyntax.specs.Validation.Context.{Stack, enter, leave, Context, under, body_context, block_sig}

-- 2.3.1 the integer type of a width
abbrev pub type_at : Width → ValType
type_at Width32 = I32
type_at Width64 = I64

-- 3.3.1 the operand types of a numeric operator, as they are written
abbrev pub operands : NumOp → List ValType
operands (OfOne w f) = type_at w ∷ []
operands (OfTwo w f) = type_at w ∷ type_at w ∷ []
operands (Eqz w) = type_at w ∷ []
operands (Comparing w f) = type_at w ∷ type_at w ∷ []
operands Wrap = I64 ∷ []
operands ExtendS = I32 ∷ []
operands ExtendU = I32 ∷ []
operands (ExtendLow w n) = type_at w ∷ []
operands (FloatOp f) = (float_type f).params

-- 3.3.1 the result types of a numeric operator
abbrev pub results : NumOp → List ValType
results (OfOne w f) = type_at w ∷ []
results (OfTwo w f) = type_at w ∷ []
results (Eqz w) = I32 ∷ []
results (Comparing w f) = I32 ∷ []
results Wrap = I32 ∷ []
results ExtendS = I64 ∷ []
results ExtendU = I64 ∷ []
results (ExtendLow w n) = type_at w ∷ []
results (FloatOp f) = (float_type f).results

-- 3.3.1 to 3.3.5 the instruction takes a from the stack, and leaves b: one clause a rule. What a rule leaves free is free here; the labels of a br_table all have one list of types, as 1.0 says
abbrev pub OpTyped : Context → Op → Stack → Stack → Type 0
-- 3.3.5 control instructions
OpTyped C Unreachable a b = Unit {0}
OpTyped C Nop a b = (a ≡ []) × (b ≡ [])
OpTyped C (Br l) a b = (r : Stack) × (c : Stack) × (slice_get C.labels l ≡ Some r) × (a ≡ r ++ c)
OpTyped C (BrIf l) a b = (r : Stack) × (slice_get C.labels l ≡ Some r) × (a ≡ I32 ∷ r) × (b ≡ r)
OpTyped C (BrTable ls d) a b =
    (r : Stack) × (c : Stack) × All (λ l. slice_get C.labels l ≡ Some r) (d ∷ ls) × (a ≡ (I32 ∷ r) ++ c)
OpTyped C Return a b = (r : Stack) × (c : Stack) × (C.return ≡ Some r) × (a ≡ r ++ c)
OpTyped C (Call x) a b = (s : FuncType) × (slice_get C.functions x ≡ Some s) × (a ≡ enter s) × (b ≡ leave s)
OpTyped C (CallIndirect y) a b =
    (s : FuncType) × IsTrue C.has_table × (slice_get C.types y ≡ Some s) × (a ≡ I32 ∷ enter s) × (b ≡ leave s)
-- 3.3.2 parametric instructions
OpTyped C Drop a b = (t : ValType) × (a ≡ t ∷ []) × (b ≡ [])
OpTyped C Select a b = (t : ValType) × (a ≡ I32 ∷ t ∷ t ∷ []) × (b ≡ t ∷ [])
-- 3.3.3 variable instructions
OpTyped C (LocalGet x) a b = (t : ValType) × (slice_get C.locals x ≡ Some t) × (a ≡ []) × (b ≡ t ∷ [])
OpTyped C (LocalSet x) a b = (t : ValType) × (slice_get C.locals x ≡ Some t) × (a ≡ t ∷ []) × (b ≡ [])
OpTyped C (LocalTee x) a b = (t : ValType) × (slice_get C.locals x ≡ Some t) × (a ≡ t ∷ []) × (b ≡ t ∷ [])
OpTyped C (GlobalGet x) a b = (g : GlobalType) × (slice_get C.globals x ≡ Some g) × (a ≡ []) × (b ≡ g.val_type ∷ [])
OpTyped C (GlobalSet x) a b =
    (g : GlobalType) × (slice_get C.globals x ≡ Some g) × IsTrue g.mutable × (a ≡ g.val_type ∷ []) × (b ≡ [])
-- 3.3.4 memory instructions
OpTyped C (MemoryLoad m) a b = IsTrue C.has_memory × (2 ^ m.align ≤ m.width) × (a ≡ I32 ∷ []) × (b ≡ m.of_type ∷ [])
OpTyped C (MemoryStore m) a b = IsTrue C.has_memory × (2 ^ m.align ≤ m.width) × (a ≡ m.of_type ∷ I32 ∷ []) × (b ≡ [])
OpTyped C MemorySize a b = IsTrue C.has_memory × (a ≡ []) × (b ≡ I32 ∷ [])
OpTyped C MemoryGrow a b = IsTrue C.has_memory × (a ≡ I32 ∷ []) × (b ≡ I32 ∷ [])
-- 3.3.1 numeric instructions
OpTyped C (Const t n) a b = (a ≡ []) × (b ≡ t ∷ [])
OpTyped C (Numeric f) a b = (a ≡ reverse (operands f)) × (b ≡ reverse (results f))

-- 3.3.5, 3.3.6 the sequence takes a and leaves z; each instruction leaves some c below its operands as it was. Ours: by recursion on the sequence, from its first instruction on; an else that was not written is the empty sequence
abbrev pub Typed : Context → Code → Stack → Stack → Type 0
Typed C Stop a z = a ≡ z
Typed C (Plain i rest) a z =
    (p : Stack) × (q : Stack) × (c : Stack) × OpTyped C i p q × (a ≡ p ++ c) × Typed C rest (q ++ c) z
Typed C (Block t body rest) a z =
    (s : FuncType) × (c : Stack) × (block_sig C.types t ≡ Some s) × Typed (under (leave s) C) body (enter s) (leave s)
    × (a ≡ enter s ++ c) × Typed C rest (leave s ++ c) z
Typed C (Loop t body rest) a z =
    (s : FuncType) × (c : Stack) × (block_sig C.types t ≡ Some s) × Typed (under (enter s) C) body (enter s) (leave s)
    × (a ≡ enter s ++ c) × Typed C rest (leave s ++ c) z
Typed C (If t body rest) a z =
    (s : FuncType) × (c : Stack) × (block_sig C.types t ≡ Some s) × Typed (under (leave s) C) body (enter s) (leave s)
    × (enter s ≡ leave s) × (a ≡ (I32 ∷ enter s) ++ c) × Typed C rest (leave s ++ c) z
Typed C (IfElse t body other rest) a z =
    (s : FuncType) × (c : Stack) × (block_sig C.types t ≡ Some s) × Typed (under (leave s) C) body (enter s) (leave s)
    × Typed (under (leave s) C) other (enter s) (leave s) × (a ≡ (I32 ∷ enter s) ++ c) × Typed C rest (leave s ++ c) z

-- 3.3.7, 3.4.1 the body of a function with the results r is typed, under the locals of C
abbrev pub BodyTyped : Context → Stack → Code → Type 0
BodyTyped C r code = Typed (body_context r C) code [] r
