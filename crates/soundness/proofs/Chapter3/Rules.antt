-- The rules as they are written, and as the algorithm has them.
use Rattle.std.proofs.Common.{◌≡◌, ◌^◌, [], ◌∷◌, Some, refl, sym, subst}
use Rattle.std.specs.Prelude.{slice_get, nat_le, reverse}
use Rattle.std.proofs.lemmas.Option.{same_Some}
use Rattle.std.proofs.lemmas.List.Elements.{All-cons, All-head, All-tail}
use Rattle.std.proofs.lemmas.Bool.{leb-true, le-leb}
use Rattle.wsyntax.specs.declared.types.ValType.TheVariants.{I32}
use Rattle.wsyntax.specs.Instructions.{Op, Unreachable, Nop, Return, Drop, Select, MemorySize, MemoryGrow, Br, BrIf, Call, CallIndirect, LocalGet, LocalSet, LocalTee, GlobalGet, GlobalSet, BrTable, MemoryLoad, MemoryStore, Const, Numeric}
use Rattle.wsyntax.specs.Validation.Context.{Stack, enter, leave, Context}
use Rattle.wsyntax.specs.Validation.Typing.{OpTyped, operands, results}
use Rattle.wsyntax.specs.Validation.Algorithm.{all_take, Rule, Takes, Ends, Drops, Selects, rule}
use Rattle.soundness.proofs.Chapter3.Basics.{on_some, on_to, when_some, when_to, all_take-true, all_take-all}
use Rattle.soundness.proofs.Chapter3.Match.{Does}

at_rule : (r r1 : Rule) (a b : Stack) → Some r ≡ Some r1 → Does r1 a b → Does r a b
at_rule r r1 a b e d = subst (λ z. Does z a b) (sym (same_Some r r1 e)) d

pub rule-back : (C : Context) (i : Op) (r : Rule) (a b : Stack) → rule C i ≡ Some r → Does r a b → OpTyped C i a b
rule-back C Unreachable r a b e d = tt
rule-back C Nop r a b e d = at_rule (Takes [] []) r a b e d
rule-back C (Br l) r a b e d =
    let x = on_some (slice_get C.labels l) _ r e in let h = at_rule (Ends x.0) r a b x.2 d in (x.0, h.0, x.1, h.1)
rule-back C (BrIf l) r a b e d =
    let x = on_some (slice_get C.labels l) _ r e in let h = at_rule (Takes (I32 ∷ x.0) x.0) r a b x.2 d in (x.0, x.1, h.0, h.1)
rule-back C (BrTable ls l) r a b e d =
    let x = on_some (slice_get C.labels l) _ r e in
    let y = when_some (all_take C.labels x.0 ls) (Some (Ends (I32 ∷ x.0))) r x.2 in
    let h = at_rule (Ends (I32 ∷ x.0)) r a b y.1 d in
    (x.0, h.0, All-cons (λ k. slice_get C.labels k ≡ Some x.0) l ls x.1 (all_take-true C.labels x.0 ls y.0), h.1)
rule-back C Return r a b e d =
    let x = on_some C.return _ r e in let h = at_rule (Ends x.0) r a b x.2 d in (x.0, h.0, x.1, h.1)
rule-back C (Call f) r a b e d =
    let x = on_some (slice_get C.functions f) _ r e in let h = at_rule (Takes (enter x.0) (leave x.0)) r a b x.2 d in (x.0, x.1, h.0, h.1)
rule-back C (CallIndirect t) r a b e d =
    let y = when_some C.has_table _ r e in
    let x = on_some (slice_get C.types t) _ r y.1 in
    let h = at_rule (Takes (I32 ∷ enter x.0) (leave x.0)) r a b x.2 d in (x.0, y.0, x.1, h.0, h.1)
rule-back C Drop r a b e d = at_rule Drops r a b e d
rule-back C Select r a b e d = at_rule Selects r a b e d
rule-back C (LocalGet l) r a b e d =
    let x = on_some (slice_get C.locals l) _ r e in let h = at_rule (Takes [] (x.0 ∷ [])) r a b x.2 d in (x.0, x.1, h.0, h.1)
rule-back C (LocalSet l) r a b e d =
    let x = on_some (slice_get C.locals l) _ r e in let h = at_rule (Takes (x.0 ∷ []) []) r a b x.2 d in (x.0, x.1, h.0, h.1)
rule-back C (LocalTee l) r a b e d =
    let x = on_some (slice_get C.locals l) _ r e in let h = at_rule (Takes (x.0 ∷ []) (x.0 ∷ [])) r a b x.2 d in (x.0, x.1, h.0, h.1)
rule-back C (GlobalGet l) r a b e d =
    let x = on_some (slice_get C.globals l) _ r e in let h = at_rule (Takes [] (x.0.val_type ∷ [])) r a b x.2 d in (x.0, x.1, h.0, h.1)
rule-back C (GlobalSet l) r a b e d =
    let x = on_some (slice_get C.globals l) _ r e in
    let y = when_some x.0.mutable _ r x.2 in
    let h = at_rule (Takes (x.0.val_type ∷ []) []) r a b y.1 d in (x.0, x.1, y.0, h.0, h.1)
rule-back C (MemoryLoad m) r a b e d =
    let x = when_some C.has_memory _ r e in
    let y = when_some (nat_le (2 ^ m.align) m.width) _ r x.1 in
    let h = at_rule (Takes (I32 ∷ []) (m.of_type ∷ [])) r a b y.1 d in (x.0, leb-true (2 ^ m.align) m.width y.0, h.0, h.1)
rule-back C (MemoryStore m) r a b e d =
    let x = when_some C.has_memory _ r e in
    let y = when_some (nat_le (2 ^ m.align) m.width) _ r x.1 in
    let h = at_rule (Takes (m.of_type ∷ I32 ∷ []) []) r a b y.1 d in (x.0, leb-true (2 ^ m.align) m.width y.0, h.0, h.1)
rule-back C MemorySize r a b e d =
    let x = when_some C.has_memory _ r e in let h = at_rule (Takes [] (I32 ∷ [])) r a b x.1 d in (x.0, h.0, h.1)
rule-back C MemoryGrow r a b e d =
    let x = when_some C.has_memory _ r e in let h = at_rule (Takes (I32 ∷ []) (I32 ∷ [])) r a b x.1 d in (x.0, h.0, h.1)
rule-back C (Const t n) r a b e d = at_rule (Takes [] (t ∷ [])) r a b e d
rule-back C (Numeric f) r a b e d = at_rule (Takes (reverse (operands f)) (reverse (results f))) r a b e d

pub rule-on : (C : Context) (i : Op) (a b : Stack) → OpTyped C i a b → (r : Rule) × (rule C i ≡ Some r) × Does r a b
rule-on C Unreachable a b d = (Ends [], refl, (a, refl))
rule-on C Nop a b d = (Takes [] [], refl, d)
rule-on C (Br l) a b d = (Ends d.0, on_to (slice_get C.labels l) _ d.0 _ d.2 refl, (d.1, d.3))
rule-on C (BrIf l) a b d = (Takes (I32 ∷ d.0) d.0, on_to (slice_get C.labels l) _ d.0 _ d.1 refl, (d.2, d.3))
rule-on C (BrTable ls l) a b d =
    let here = All-head (λ k. slice_get C.labels k ≡ Some d.0) l ls d.2 in
    let others = all_take-all C.labels d.0 ls (All-tail (λ k. slice_get C.labels k ≡ Some d.0) l ls d.2) in
    (Ends (I32 ∷ d.0), on_to (slice_get C.labels l) _ d.0 _ here (when_to (all_take C.labels d.0 ls) _ _ others refl), (d.1, d.3))
rule-on C Return a b d = (Ends d.0, on_to C.return _ d.0 _ d.2 refl, (d.1, d.3))
rule-on C (Call f) a b d = (Takes (enter d.0) (leave d.0), on_to (slice_get C.functions f) _ d.0 _ d.1 refl, (d.2, d.3))
rule-on C (CallIndirect t) a b d =
    (Takes (I32 ∷ enter d.0) (leave d.0), when_to C.has_table _ _ d.1 (on_to (slice_get C.types t) _ d.0 _ d.2 refl), (d.3, d.4))
rule-on C Drop a b d = (Drops, refl, d)
rule-on C Select a b d = (Selects, refl, d)
rule-on C (LocalGet l) a b d = (Takes [] (d.0 ∷ []), on_to (slice_get C.locals l) _ d.0 _ d.1 refl, (d.2, d.3))
rule-on C (LocalSet l) a b d = (Takes (d.0 ∷ []) [], on_to (slice_get C.locals l) _ d.0 _ d.1 refl, (d.2, d.3))
rule-on C (LocalTee l) a b d = (Takes (d.0 ∷ []) (d.0 ∷ []), on_to (slice_get C.locals l) _ d.0 _ d.1 refl, (d.2, d.3))
rule-on C (GlobalGet l) a b d = (Takes [] (d.0.val_type ∷ []), on_to (slice_get C.globals l) _ d.0 _ d.1 refl, (d.2, d.3))
rule-on C (GlobalSet l) a b d =
    (Takes (d.0.val_type ∷ []) [], on_to (slice_get C.globals l) _ d.0 _ d.1 (when_to d.0.mutable _ _ d.2 refl), (d.3, d.4))
rule-on C (MemoryLoad m) a b d =
    (Takes (I32 ∷ []) (m.of_type ∷ []), when_to C.has_memory _ _ d.0 (when_to (nat_le (2 ^ m.align) m.width) _ _ (le-leb (2 ^ m.align) m.width d.1) refl), (d.2, d.3))
rule-on C (MemoryStore m) a b d =
    (Takes (m.of_type ∷ I32 ∷ []) [], when_to C.has_memory _ _ d.0 (when_to (nat_le (2 ^ m.align) m.width) _ _ (le-leb (2 ^ m.align) m.width d.1) refl), (d.2, d.3))
rule-on C MemorySize a b d = (Takes [] (I32 ∷ []), when_to C.has_memory _ _ d.0 refl, (d.1, d.2))
rule-on C MemoryGrow a b d = (Takes (I32 ∷ []) (I32 ∷ []), when_to C.has_memory _ _ d.0 refl, (d.1, d.2))
rule-on C (Const t n) a b d = (Takes [] (t ∷ []), refl, d)
rule-on C (Numeric f) a b d = (Takes (reverse (operands f)) (reverse (results f)), refl, d)
