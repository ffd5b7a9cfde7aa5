-- Typing by recursion on the sequence, and typing by the rules of inference.
use Rattle.std.proofs.Common.{◌≡◌, [], ◌∷◌, ◌++◌, refl, sym, ap, subst, subst₂, append-nil}
use Rattle.std.specs.Prelude.{reverse}
use Rattle.wsyntax.specs.declared.types.ValType.TheVariants.{I32}
use Rattle.wsyntax.specs.Instructions.{Op, Unreachable, Nop, Return, Br, BrIf, Call, CallIndirect, BrTable, Drop, Select, LocalGet, LocalSet, LocalTee, GlobalGet, GlobalSet, MemoryLoad, MemoryStore, MemorySize, MemoryGrow, Const, Numeric, Code, Stop, Plain, Block, Loop, If, IfElse, follow}
use Rattle.wsyntax.specs.Validation.Context.{Stack, enter, leave, Context, under}
use Rattle.wsyntax.specs.Validation.Typing.{operands, results, OpTyped, Typed}
use Rattle.wsyntax.specs.Validation.Inference.{InstrTyped, SeqTyped, RulesAgree}
use Rattle.wsyntax.specs.Validation.Inference as rule
use Rattle.soundness.proofs.Chapter3.Compose.{composes}

-- From the rules.

-- an instruction without a body
from_op : {C : Context} {i : Op} {a b : Stack} → InstrTyped C (Plain i Stop) a b → OpTyped C i a b
from_op rule.const = (refl, refl)
from_op rule.numeric = (refl, refl)
from_op (rule.drop {t = t}) = (t, refl, refl)
from_op (rule.select {t = t}) = (t, refl, refl)
from_op (rule.local_get {t = t} e) = (t, e, refl, refl)
from_op (rule.local_set {t = t} e) = (t, e, refl, refl)
from_op (rule.local_tee {t = t} e) = (t, e, refl, refl)
from_op (rule.global_get {g = g} e) = (g, e, refl, refl)
from_op (rule.global_set {g = g} e v) = (g, e, v, refl, refl)
from_op (rule.load e l) = (e, l, refl, refl)
from_op (rule.store e l) = (e, l, refl, refl)
from_op (rule.memory_size e) = (e, refl, refl)
from_op (rule.memory_grow e) = (e, refl, refl)
from_op rule.nop = (refl, refl)
from_op rule.unreachable = tt
from_op (rule.br {t = t} a e) = (t, a, e, refl)
from_op (rule.br_if {t = t} e) = (t, e, refl, refl)
from_op (rule.br_table {t = t} a e) = (t, a, e, refl)
from_op (rule.return {t = t} a e) = (t, a, e, refl)
from_op (rule.call {s = s} e) = (s, e, refl, refl)
from_op (rule.call_indirect {s = s} v e) = (s, v, e, refl, refl)

-- one instruction, with nothing after it and nothing below its operands
alone : {C : Context} {i : Op} {a b : Stack} → InstrTyped C (Plain i Stop) a b → Typed C (Plain i Stop) a b
alone {a = a} {b = b} h = (a, b, [], from_op h, sym (append-nil a), append-nil b)

mutual
  from_sequence : {C : Context} {code : Code} {a b : Stack} → SeqTyped C code a b → Typed C code a b
  from_sequence rule.empty = refl
  from_sequence (rule.non_empty {C = C} {front = front} {last = last} t0 {t1 = t1} {t = t} {t3 = t3} s i) = composes C front last t1 t t0 t3 (from_sequence s) (from_instruction i)

  from_instruction : {C : Context} {code : Code} {a b : Stack} → InstrTyped C code a b → Typed C code a b
  from_instruction (rule.block {s = s} e h) = (s, [], e, from_sequence h, sym (append-nil (enter s)), append-nil (leave s))
  from_instruction (rule.loop {s = s} e h) = (s, [], e, from_sequence h, sym (append-nil (enter s)), append-nil (leave s))
  from_instruction (rule.if_else {s = s} e h k) = (s, [], e, from_sequence h, from_sequence k, sym (append-nil (I32 ∷ enter s)), append-nil (leave s))
  from_instruction (rule.if_alone {s = s} e h k) = (s, [], e, from_sequence h, from_sequence k, sym (append-nil (I32 ∷ enter s)), append-nil (leave s))
  from_instruction h = alone h

-- To the rules.

-- the same instruction, where it takes and leaves these
at_types : (C : Context) (code : Code) (a p b q : Stack) → a ≡ p → b ≡ q → InstrTyped C code p q → InstrTyped C code a b
at_types C code a p b q e f h = subst₂ (λ x y. InstrTyped C code x y) (sym e) (sym f) h

to_instruction : (i : Op) (C : Context) (a b : Stack) → OpTyped C i a b → InstrTyped C (Plain i Stop) a b
to_instruction Unreachable C a b h = rule.unreachable
to_instruction Nop C a b h = at_types C _ a [] b [] h.0 h.1 rule.nop
to_instruction (Br l) C a b h = at_types C _ a (h.0 ++ h.1) b b h.3 refl (rule.br h.1 h.2)
to_instruction (BrIf l) C a b h = at_types C _ a (I32 ∷ h.0) b h.0 h.2 h.3 (rule.br_if h.1)
to_instruction (BrTable ls d) C a b h = at_types C _ a ((I32 ∷ h.0) ++ h.1) b b h.3 refl (rule.br_table h.1 h.2)
to_instruction Return C a b h = at_types C _ a (h.0 ++ h.1) b b h.3 refl (rule.return h.1 h.2)
to_instruction (Call x) C a b h = at_types C _ a (enter h.0) b (leave h.0) h.2 h.3 (rule.call h.1)
to_instruction (CallIndirect y) C a b h = at_types C _ a (I32 ∷ enter h.0) b (leave h.0) h.3 h.4 (rule.call_indirect h.1 h.2)
to_instruction Drop C a b h = at_types C _ a (h.0 ∷ []) b [] h.1 h.2 rule.drop
to_instruction Select C a b h = at_types C _ a (I32 ∷ h.0 ∷ h.0 ∷ []) b (h.0 ∷ []) h.1 h.2 rule.select
to_instruction (LocalGet x) C a b h = at_types C _ a [] b (h.0 ∷ []) h.2 h.3 (rule.local_get h.1)
to_instruction (LocalSet x) C a b h = at_types C _ a (h.0 ∷ []) b [] h.2 h.3 (rule.local_set h.1)
to_instruction (LocalTee x) C a b h = at_types C _ a (h.0 ∷ []) b (h.0 ∷ []) h.2 h.3 (rule.local_tee h.1)
to_instruction (GlobalGet x) C a b h = at_types C _ a [] b (h.0.val_type ∷ []) h.2 h.3 (rule.global_get h.1)
to_instruction (GlobalSet x) C a b h = at_types C _ a (h.0.val_type ∷ []) b [] h.3 h.4 (rule.global_set h.1 h.2)
to_instruction (MemoryLoad m) C a b h = at_types C _ a (I32 ∷ []) b (m.of_type ∷ []) h.2 h.3 (rule.load h.0 h.1)
to_instruction (MemoryStore m) C a b h = at_types C _ a (m.of_type ∷ I32 ∷ []) b [] h.2 h.3 (rule.store h.0 h.1)
to_instruction MemorySize C a b h = at_types C _ a [] b (I32 ∷ []) h.1 h.2 (rule.memory_size h.0)
to_instruction MemoryGrow C a b h = at_types C _ a (I32 ∷ []) b (I32 ∷ []) h.1 h.2 (rule.memory_grow h.0)
to_instruction (Const t n) C a b h = at_types C _ a [] b (t ∷ []) h.0 h.1 rule.const
to_instruction (Numeric f) C a b h = at_types C _ a (reverse (operands f)) b (reverse (results f)) h.0 h.1 rule.numeric

-- nothing after a sequence
follow_stop : (c : Code) → follow c Stop ≡ c
follow_stop Stop = refl
follow_stop (Plain i rest) = ap (Plain i) (follow_stop rest)
follow_stop (Block t body rest) = ap (Block t body) (follow_stop rest)
follow_stop (Loop t body rest) = ap (Loop t body) (follow_stop rest)
follow_stop (If t body rest) = ap (If t body) (follow_stop rest)
follow_stop (IfElse t body other rest) = ap (IfElse t body other) (follow_stop rest)

-- three sequences, one after the other
follow_three : (c d e : Code) → follow (follow c d) e ≡ follow c (follow d e)
follow_three Stop d e = refl
follow_three (Plain i rest) d e = ap (Plain i) (follow_three rest d e)
follow_three (Block t body rest) d e = ap (Block t body) (follow_three rest d e)
follow_three (Loop t body rest) d e = ap (Loop t body) (follow_three rest d e)
follow_three (If t body rest) d e = ap (If t body) (follow_three rest d e)
follow_three (IfElse t body other rest) d e = ap (IfElse t body other) (follow_three rest d e)

-- one instruction goes from the rest of a sequence to the end of its front
pass : (C : Context) (front one rest : Code) (a m p q c z : Stack) → SeqTyped C front a m → m ≡ p ++ c → InstrTyped C one p q → (SeqTyped C (follow front one) a (q ++ c) → SeqTyped C (follow (follow front one) rest) a z) → SeqTyped C (follow front (follow one rest)) a z
pass C front one rest a m p q c z s e i go =
    subst (λ x. SeqTyped C x a z) (follow_three front one rest) (go (rule.non_empty c (subst (λ x. SeqTyped C front a x) e s) i))

-- a sequence after one that the rules type
behind : (code : Code) (C : Context) (front : Code) (a m z : Stack) → SeqTyped C front a m → Typed C code m z → SeqTyped C (follow front code) a z
behind Stop C front a m z s h = subst₂ (λ c x. SeqTyped C c a x) (sym (follow_stop front)) h s
behind (Plain i rest) C front a m z s h =
    pass C front (Plain i Stop) rest a m h.0 h.1 h.2 z s h.4 (to_instruction i C h.0 h.1 h.3)
    (λ k. behind rest C (follow front (Plain i Stop)) a (h.1 ++ h.2) z k h.5)
behind (Block t body rest) C front a m z s h =
    pass C front (Block t body Stop) rest a m (enter h.0) (leave h.0) h.1 z s h.4 (rule.block h.2 (behind body (under (leave h.0) C) Stop (enter h.0) (enter h.0) (leave h.0) rule.empty h.3))
    (λ k. behind rest C (follow front (Block t body Stop)) a (leave h.0 ++ h.1) z k h.5)
behind (Loop t body rest) C front a m z s h =
    pass C front (Loop t body Stop) rest a m (enter h.0) (leave h.0) h.1 z s h.4 (rule.loop h.2 (behind body (under (enter h.0) C) Stop (enter h.0) (enter h.0) (leave h.0) rule.empty h.3))
    (λ k. behind rest C (follow front (Loop t body Stop)) a (leave h.0 ++ h.1) z k h.5)
behind (If t body rest) C front a m z s h =
    pass C front (If t body Stop) rest a m (I32 ∷ enter h.0) (leave h.0) h.1 z s h.5 (rule.if_alone h.2 (behind body (under (leave h.0) C) Stop (enter h.0) (enter h.0) (leave h.0) rule.empty h.3) (subst (λ x. SeqTyped (under (leave h.0) C) Stop (enter h.0) x) h.4 rule.empty))
    (λ k. behind rest C (follow front (If t body Stop)) a (leave h.0 ++ h.1) z k h.6)
behind (IfElse t body other rest) C front a m z s h =
    pass C front (IfElse t body other Stop) rest a m (I32 ∷ enter h.0) (leave h.0) h.1 z s h.5 (rule.if_else h.2 (behind body (under (leave h.0) C) Stop (enter h.0) (enter h.0) (leave h.0) rule.empty h.3) (behind other (under (leave h.0) C) Stop (enter h.0) (enter h.0) (leave h.0) rule.empty h.4))
    (λ k. behind rest C (follow front (IfElse t body other Stop)) a (leave h.0 ++ h.1) z k h.6)

pub rules_agree : RulesAgree
rules_agree = record {
  instructions = λ C i a b. (to_instruction i C a b, from_op);
  sequences = λ C code a b. (behind code C Stop a a b rule.empty, from_sequence);
}
