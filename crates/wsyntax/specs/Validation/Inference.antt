-- 3.3 The typing rules once more, as the standard's rules of inference: what one instruction takes and leaves, and what a sequence does.
-- Stacks are written from the topmost operand on, so `[t1* t*]` of the standard is `t ++ t1`.
use Rattle.std.specs.Prelude.{◌≡◌, ◌↔◌, ℕ, ◌^◌, ◌≤◌, IsTrue, List, [], ◌∷◌, ◌++◌, Some, slice_get, All, reverse}
use Rattle.wsyntax.specs.Types.{ValType, I32, FuncType, GlobalType}
use Rattle.wsyntax.specs.Instructions.{NumOp, BlockType, Access, Op, Unreachable, Nop, Return, Br, BrIf, Call, CallIndirect, BrTable, Drop, Select, LocalGet, LocalSet, LocalTee, GlobalGet, GlobalSet, MemoryLoad, MemoryStore, MemorySize, MemoryGrow, Const, Numeric, Code, Stop, Plain, Block, Loop, If, IfElse, follow}
use Rattle.wsyntax.specs.Validation.Context.{Stack, enter, leave, Context, under, block_sig}
use Rattle.wsyntax.specs.Validation.Typing.{operands, results, OpTyped, Typed}

mutual
  -- 3.3.1 to 3.3.5 `C ⊢ instr : [a] → [b]`, a constructor an instruction. Ours: one instruction is a sequence with nothing after it
  pub data InstrTyped : Context → Code → Stack → Stack → Type 0 where
    -- 3.3.1 numeric instructions
    const : {C : Context} {t : ValType} {n : ℕ} → InstrTyped C (Plain (Const t n) Stop) [] (t ∷ [])
    numeric : {C : Context} {f : NumOp} → InstrTyped C (Plain (Numeric f) Stop) (reverse (operands f)) (reverse (results f))
    -- 3.3.2 parametric instructions, of any type t
    drop : {C : Context} {t : ValType} → InstrTyped C (Plain Drop Stop) (t ∷ []) []
    select : {C : Context} {t : ValType} → InstrTyped C (Plain Select Stop) (I32 ∷ t ∷ t ∷ []) (t ∷ [])
    -- 3.3.3 variable instructions
    local_get : {C : Context} {x : ℕ} {t : ValType} → slice_get C.locals x ≡ Some t → InstrTyped C (Plain (LocalGet x) Stop) [] (t ∷ [])
    local_set : {C : Context} {x : ℕ} {t : ValType} → slice_get C.locals x ≡ Some t → InstrTyped C (Plain (LocalSet x) Stop) (t ∷ []) []
    local_tee : {C : Context} {x : ℕ} {t : ValType} → slice_get C.locals x ≡ Some t → InstrTyped C (Plain (LocalTee x) Stop) (t ∷ []) (t ∷ [])
    global_get : {C : Context} {x : ℕ} {g : GlobalType} → slice_get C.globals x ≡ Some g → InstrTyped C (Plain (GlobalGet x) Stop) [] (g.val_type ∷ [])
    global_set : {C : Context} {x : ℕ} {g : GlobalType} → slice_get C.globals x ≡ Some g → IsTrue g.mutable → InstrTyped C (Plain (GlobalSet x) Stop) (g.val_type ∷ []) []
    -- 3.3.4 memory instructions: the alignment is no larger than the width
    load : {C : Context} {m : Access} → IsTrue C.has_memory → 2 ^ m.align ≤ m.width → InstrTyped C (Plain (MemoryLoad m) Stop) (I32 ∷ []) (m.of_type ∷ [])
    store : {C : Context} {m : Access} → IsTrue C.has_memory → 2 ^ m.align ≤ m.width → InstrTyped C (Plain (MemoryStore m) Stop) (m.of_type ∷ I32 ∷ []) []
    memory_size : {C : Context} → IsTrue C.has_memory → InstrTyped C (Plain MemorySize Stop) [] (I32 ∷ [])
    memory_grow : {C : Context} → IsTrue C.has_memory → InstrTyped C (Plain MemoryGrow Stop) (I32 ∷ []) (I32 ∷ [])
    -- 3.3.5 control instructions; s is the type that the block type stands for
    nop : {C : Context} → InstrTyped C (Plain Nop Stop) [] []
    unreachable : {C : Context} {a b : Stack} → InstrTyped C (Plain Unreachable Stop) a b
    block : {C : Context} {t : BlockType} {s : FuncType} {body : Code} → block_sig C.types t ≡ Some s → SeqTyped (under (leave s) C) body (enter s) (leave s) → InstrTyped C (Block t body Stop) (enter s) (leave s)
    loop : {C : Context} {t : BlockType} {s : FuncType} {body : Code} → block_sig C.types t ≡ Some s → SeqTyped (under (enter s) C) body (enter s) (leave s) → InstrTyped C (Loop t body Stop) (enter s) (leave s)
    if_else : {C : Context} {t : BlockType} {s : FuncType} {body other : Code} → block_sig C.types t ≡ Some s → SeqTyped (under (leave s) C) body (enter s) (leave s) → SeqTyped (under (leave s) C) other (enter s) (leave s) → InstrTyped C (IfElse t body other Stop) (I32 ∷ enter s) (leave s)
    -- 5.4.1 an else that was not written is the empty sequence
    if_alone : {C : Context} {t : BlockType} {s : FuncType} {body : Code} → block_sig C.types t ≡ Some s → SeqTyped (under (leave s) C) body (enter s) (leave s) → SeqTyped (under (leave s) C) Stop (enter s) (leave s) → InstrTyped C (If t body Stop) (I32 ∷ enter s) (leave s)
    -- `[t1* t*] → [t2*]`: what stands below is free, and so is what it leaves
    br : {C : Context} {l : ℕ} {t : Stack} (a : Stack) {b : Stack} → slice_get C.labels l ≡ Some t → InstrTyped C (Plain (Br l) Stop) (t ++ a) b
    br_if : {C : Context} {l : ℕ} {t : Stack} → slice_get C.labels l ≡ Some t → InstrTyped C (Plain (BrIf l) Stop) (I32 ∷ t) t
    br_table : {C : Context} {ls : List ℕ} {d : ℕ} {t : Stack} (a : Stack) {b : Stack} → All (λ l. slice_get C.labels l ≡ Some t) (d ∷ ls) → InstrTyped C (Plain (BrTable ls d) Stop) ((I32 ∷ t) ++ a) b
    return : {C : Context} {t : Stack} (a : Stack) {b : Stack} → C.return ≡ Some t → InstrTyped C (Plain Return Stop) (t ++ a) b
    call : {C : Context} {x : ℕ} {s : FuncType} → slice_get C.functions x ≡ Some s → InstrTyped C (Plain (Call x) Stop) (enter s) (leave s)
    call_indirect : {C : Context} {y : ℕ} {s : FuncType} → IsTrue C.has_table → slice_get C.types y ≡ Some s → InstrTyped C (Plain (CallIndirect y) Stop) (I32 ∷ enter s) (leave s)

  -- 3.3.6 `C ⊢ instr* : [a] → [b]`: the empty sequence, and a sequence with one instruction at its end
  pub data SeqTyped : Context → Code → Stack → Stack → Type 0 where
    -- 3.3.6.1 `ε : [t*] → [t*]`
    empty : {C : Context} {t : Stack} → SeqTyped C Stop t t
    -- 3.3.6.2 `instr* instrN : [t1*] → [t0* t3*]`, where `instr* : [t1*] → [t0* t*]` and `instrN : [t*] → [t3*]`
    non_empty : {C : Context} {front last : Code} (t0 : Stack) {t1 t t3 : Stack} → SeqTyped C front t1 (t ++ t0) → InstrTyped C last t t3 → SeqTyped C (follow front last) t1 (t3 ++ t0)

-- typing by clauses and by recursion is typing by the standard's rules of inference, both ways
pub record RulesAgree : Type 0 where
  pub instructions : (C : Context) (i : Op) (a b : Stack) → OpTyped C i a b ↔ InstrTyped C (Plain i Stop) a b
  pub sequences : (C : Context) (code : Code) (a b : Stack) → Typed C code a b ↔ SeqTyped C code a b
