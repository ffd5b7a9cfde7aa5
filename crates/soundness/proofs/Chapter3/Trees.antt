-- The algorithm over a tree agrees with the rules.
use Rattle.std.proofs.Common.{◌≡◌, ◌∷◌, ◌++◌, Some, refl, sym, subst}
use Rattle.std.proofs.lemmas.Option.{same_Some}
use Rattle.wsyntax.specs.declared.types.ValType.TheVariants.{I32}
use Rattle.wsyntax.specs.Instructions.{Code, Stop, Plain, Block, Loop, If, IfElse}
use Rattle.wsyntax.specs.Validation.Context.{Stack, enter, leave, Context, under, block_sig}
use Rattle.wsyntax.specs.Validation.Typing.{Typed}
use Rattle.wsyntax.specs.Validation.Algorithm.{rule, Operands, pop_one, pop_all, push_list, fresh, apply, ends_with}
use Rattle.soundness.proofs.Chapter3.Basics.{on_some, on_to, when_some, when_to}
use Rattle.soundness.proofs.Chapter3.Match.{Match, pop_all-back, pop_all-on, push_list-back, push_list-on, apply-back, apply-on, ends_with-back, ends_with-on, fresh-only, fresh-on}
use Rattle.soundness.proofs.Chapter3.Rules.{rule-back, rule-on}
use Rattle.soundness.proofs.Chapter3.Walk.{walk}

-- the type of a sequence, from the operands with which it is left
abbrev Back : Context → Code → Operands → Stack → Type 0
Back C code o z = (a : Stack) × Match o a × Typed C code a z

-- a body from the fresh operands of its frame
whole : (C : Context) (body : Code) (p : Stack) (z : Stack) → Back C body (fresh p) z → Typed C body p z
whole C body p z b = subst (λ a. Typed C body a z) (fresh-only p b.0 b.1) b.2

pub walk-back : (code : Code) (C : Context) (o o1 : Operands) (z : Stack) → walk C code o ≡ Some o1 → Match o1 z → Back C code o z
walk-back Stop C o o1 z e m = (z, subst (λ w. Match w z) (sym (same_Some _ _ e)) m, refl)
walk-back (Plain i rest) C o o1 z e m =
    let r = on_some (rule C i) _ o1 e in
    let w = on_some (apply r.0 o) (walk C rest) o1 r.2 in
    let k = walk-back rest C w.0 o1 z w.2 m in
    let b = apply-back r.0 o w.0 k.0 w.1 k.1 in
    (b.0 ++ b.2, b.4, (b.0, b.1, b.2, rule-back C i r.0 b.0 b.1 r.1 b.3, refl, subst (λ a. Typed C rest a z) b.5 k.2))
walk-back (Block t body rest) C o o1 z e m =
    let s = on_some (block_sig C.types t) _ o1 e in
    let p = on_some (pop_all (enter s.0) o) _ o1 s.2 in
    let w = on_some (walk (under (leave s.0) C) body (fresh (enter s.0))) _ o1 p.2 in
    let h = when_some (ends_with (leave s.0) w.0) (walk C rest (push_list (leave s.0) p.0)) o1 w.2 in
    let k = walk-back rest C (push_list (leave s.0) p.0) o1 z h.1 m in
    let q = push_list-back (leave s.0) p.0 k.0 k.1 in
    let b = walk-back body (under (leave s.0) C) (fresh (enter s.0)) w.0 (leave s.0) w.1 (ends_with-back (leave s.0) w.0 h.0) in (
      enter s.0 ++ q.0,
      pop_all-back (enter s.0) o p.0 q.0 p.1 q.2,
      (s.0, q.0, s.1, whole (under (leave s.0) C) body (enter s.0) (leave s.0) b, refl, subst (λ a. Typed C rest a z) q.1 k.2),
    )
walk-back (Loop t body rest) C o o1 z e m =
    let s = on_some (block_sig C.types t) _ o1 e in
    let p = on_some (pop_all (enter s.0) o) _ o1 s.2 in
    let w = on_some (walk (under (enter s.0) C) body (fresh (enter s.0))) _ o1 p.2 in
    let h = when_some (ends_with (leave s.0) w.0) (walk C rest (push_list (leave s.0) p.0)) o1 w.2 in
    let k = walk-back rest C (push_list (leave s.0) p.0) o1 z h.1 m in
    let q = push_list-back (leave s.0) p.0 k.0 k.1 in
    let b = walk-back body (under (enter s.0) C) (fresh (enter s.0)) w.0 (leave s.0) w.1 (ends_with-back (leave s.0) w.0 h.0) in (
      enter s.0 ++ q.0,
      pop_all-back (enter s.0) o p.0 q.0 p.1 q.2,
      (s.0, q.0, s.1, whole (under (enter s.0) C) body (enter s.0) (leave s.0) b, refl, subst (λ a. Typed C rest a z) q.1 k.2),
    )
walk-back (If t body rest) C o o1 z e m =
    let s = on_some (block_sig C.types t) _ o1 e in
    let i = on_some (pop_one I32 o) _ o1 s.2 in
    let p = on_some (pop_all (enter s.0) i.0) _ o1 i.2 in
    let w = on_some (walk (under (leave s.0) C) body (fresh (enter s.0))) _ o1 p.2 in
    let h = when_some (ends_with (leave s.0) w.0) _ o1 w.2 in
    let g = when_some (ends_with (leave s.0) (fresh (enter s.0))) (walk C rest (push_list (leave s.0) p.0)) o1 h.1 in
    let k = walk-back rest C (push_list (leave s.0) p.0) o1 z g.1 m in
    let q = push_list-back (leave s.0) p.0 k.0 k.1 in
    let b = walk-back body (under (leave s.0) C) (fresh (enter s.0)) w.0 (leave s.0) w.1 (ends_with-back (leave s.0) w.0 h.0) in
    let same = sym (fresh-only (enter s.0) (leave s.0) (ends_with-back (leave s.0) (fresh (enter s.0)) g.0)) in (
      (I32 ∷ enter s.0) ++ q.0,
      pop_all-back (I32 ∷ enter s.0) o p.0 q.0 (on_to (pop_one I32 o) _ i.0 _ i.1 p.1) q.2,
      (s.0, q.0, s.1, whole (under (leave s.0) C) body (enter s.0) (leave s.0) b, same, refl, subst (λ a. Typed C rest a z) q.1 k.2),
    )
walk-back (IfElse t body other rest) C o o1 z e m =
    let s = on_some (block_sig C.types t) _ o1 e in
    let i = on_some (pop_one I32 o) _ o1 s.2 in
    let p = on_some (pop_all (enter s.0) i.0) _ o1 i.2 in
    let w = on_some (walk (under (leave s.0) C) body (fresh (enter s.0))) _ o1 p.2 in
    let h = when_some (ends_with (leave s.0) w.0) _ o1 w.2 in
    let v = on_some (walk (under (leave s.0) C) other (fresh (enter s.0))) _ o1 h.1 in
    let g = when_some (ends_with (leave s.0) v.0) (walk C rest (push_list (leave s.0) p.0)) o1 v.2 in
    let k = walk-back rest C (push_list (leave s.0) p.0) o1 z g.1 m in
    let q = push_list-back (leave s.0) p.0 k.0 k.1 in
    let b = walk-back body (under (leave s.0) C) (fresh (enter s.0)) w.0 (leave s.0) w.1 (ends_with-back (leave s.0) w.0 h.0) in
    let c = walk-back other (under (leave s.0) C) (fresh (enter s.0)) v.0 (leave s.0) v.1 (ends_with-back (leave s.0) v.0 g.0) in (
      (I32 ∷ enter s.0) ++ q.0,
      pop_all-back (I32 ∷ enter s.0) o p.0 q.0 (on_to (pop_one I32 o) _ i.0 _ i.1 p.1) q.2,
      (s.0, q.0, s.1, whole (under (leave s.0) C) body (enter s.0) (leave s.0) b, whole (under (leave s.0) C) other (enter s.0) (leave s.0) c, refl, subst (λ a. Typed C rest a z) q.1 k.2),
    )

-- the operands with which a sequence of this type is left
abbrev On : Context → Code → Operands → Stack → Type 0
On C code o z = (o1 : Operands) × (walk C code o ≡ Some o1) × Match o1 z

pub walk-on : (code : Code) (C : Context) (o : Operands) (a z : Stack) → Typed C code a z → Match o a → On C code o z
walk-on Stop C o a z h m = (o, refl, subst (λ w. Match o w) h m)
walk-on (Plain i rest) C o a z h m =
    let r = rule-on C i h.0 h.1 h.3 in
    let b = apply-on r.0 o h.0 h.1 h.2 r.2 (subst (λ w. Match o w) h.4 m) in
    let k = walk-on rest C b.0 (h.1 ++ h.2) z h.5 b.2 in
    (k.0, on_to (rule C i) _ r.0 _ r.1 (on_to (apply r.0 o) (walk C rest) b.0 _ b.1 k.1), k.2)
walk-on (Block t body rest) C o a z h m =
    let s = h.0 in
    let p = pop_all-on (enter s) o h.1 (subst (λ w. Match o w) h.4 m) in
    let b = walk-on body (under (leave s) C) (fresh (enter s)) (enter s) (leave s) h.3 (fresh-on (enter s)) in
    let k = walk-on rest C (push_list (leave s) p.0) (leave s ++ h.1) z h.5 (push_list-on (leave s) p.0 h.1 p.2) in
    (k.0, on_to (block_sig C.types t) _ s _ h.2 (on_to (pop_all (enter s) o) _ p.0 _ p.1 (on_to (walk (under (leave s) C) body (fresh (enter s))) _ b.0 _ b.1 (when_to (ends_with (leave s) b.0) _ _ (ends_with-on (leave s) b.0 b.2) k.1))), k.2)
walk-on (Loop t body rest) C o a z h m =
    let s = h.0 in
    let p = pop_all-on (enter s) o h.1 (subst (λ w. Match o w) h.4 m) in
    let b = walk-on body (under (enter s) C) (fresh (enter s)) (enter s) (leave s) h.3 (fresh-on (enter s)) in
    let k = walk-on rest C (push_list (leave s) p.0) (leave s ++ h.1) z h.5 (push_list-on (leave s) p.0 h.1 p.2) in
    (k.0, on_to (block_sig C.types t) _ s _ h.2 (on_to (pop_all (enter s) o) _ p.0 _ p.1 (on_to (walk (under (enter s) C) body (fresh (enter s))) _ b.0 _ b.1 (when_to (ends_with (leave s) b.0) _ _ (ends_with-on (leave s) b.0 b.2) k.1))), k.2)
walk-on (If t body rest) C o a z h m =
    let s = h.0 in
    let i = on_some (pop_one I32 o) (pop_all (enter s)) _ (pop_all-on (I32 ∷ enter s) o h.1 (subst (λ w. Match o w) h.5 m)).1 in
    let p = pop_all-on (I32 ∷ enter s) o h.1 (subst (λ w. Match o w) h.5 m) in
    let b = walk-on body (under (leave s) C) (fresh (enter s)) (enter s) (leave s) h.3 (fresh-on (enter s)) in
    let k = walk-on rest C (push_list (leave s) p.0) (leave s ++ h.1) z h.6 (push_list-on (leave s) p.0 h.1 p.2) in
    let same = subst (λ w. Match (fresh (enter s)) w) h.4 (fresh-on (enter s)) in
    (k.0, on_to (block_sig C.types t) _ s _ h.2 (on_to (pop_one I32 o) _ i.0 _ i.1 (on_to (pop_all (enter s) i.0) _ p.0 _ i.2 (on_to (walk (under (leave s) C) body (fresh (enter s))) _ b.0 _ b.1 (when_to (ends_with (leave s) b.0) _ _ (ends_with-on (leave s) b.0 b.2) (when_to (ends_with (leave s) (fresh (enter s))) _ _ (ends_with-on (leave s) (fresh (enter s)) same) k.1))))), k.2)
walk-on (IfElse t body other rest) C o a z h m =
    let s = h.0 in
    let i = on_some (pop_one I32 o) (pop_all (enter s)) _ (pop_all-on (I32 ∷ enter s) o h.1 (subst (λ w. Match o w) h.5 m)).1 in
    let p = pop_all-on (I32 ∷ enter s) o h.1 (subst (λ w. Match o w) h.5 m) in
    let b = walk-on body (under (leave s) C) (fresh (enter s)) (enter s) (leave s) h.3 (fresh-on (enter s)) in
    let c = walk-on other (under (leave s) C) (fresh (enter s)) (enter s) (leave s) h.4 (fresh-on (enter s)) in
    let k = walk-on rest C (push_list (leave s) p.0) (leave s ++ h.1) z h.6 (push_list-on (leave s) p.0 h.1 p.2) in
    (k.0, on_to (block_sig C.types t) _ s _ h.2 (on_to (pop_one I32 o) _ i.0 _ i.1 (on_to (pop_all (enter s) i.0) _ p.0 _ i.2 (on_to (walk (under (leave s) C) body (fresh (enter s))) _ b.0 _ b.1 (when_to (ends_with (leave s) b.0) _ _ (ends_with-on (leave s) b.0 b.2) (on_to (walk (under (leave s) C) other (fresh (enter s))) _ c.0 _ c.1 (when_to (ends_with (leave s) c.0) _ _ (ends_with-on (leave s) c.0 c.2) k.1)))))), k.2)
