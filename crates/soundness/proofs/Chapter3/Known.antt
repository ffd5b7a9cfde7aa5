-- In code that can be reached the types are known.
use Rattle.std.proofs.Common.{◌≡◌, Bool, true, false, List, [], ◌∷◌, ◌++◌, Option, Some, map, refl, sym, ap, ◌∙◌, subst}
use Rattle.std.proofs.lemmas.Option.{same_Some}
use Rattle.std.proofs.lemmas.List.{map-append}
use Rattle.wsyntax.specs.declared.types.ValType.TheVariants.{I32}
use Rattle.wsyntax.specs.declared.types.ValType.{ValType}
use Rattle.wsyntax.specs.Types.{FuncType, same_type}
use Rattle.wsyntax.specs.Instructions.{Token, Do, OpenBlock, OpenLoop, OpenIf, Else, End}
use Rattle.wsyntax.specs.Validation.Context.{Stack, enter, leave, Context, body_context, block_sig}
use Rattle.wsyntax.specs.Validation.Algorithm.{Rule, Takes, Ends, Drops, Selects, rule, Operands, fits, split, pop_any, pop_one, pop_all, push_list, fresh, join, apply, ends_with, Frame, context_in, open_frame, may_lack_else, pass_on, step, start, run}
use Rattle.wsyntax.specs.Validation.Laws.{IsKnown, AreKnown, ReachedIsKnown}
use Rattle.soundness.proofs.Chapter3.Basics.{on_some, when_some}

-- what is left is known, and so is what was taken
record Taken (d : Bool) (x : Option ValType × Operands) : Type 0 where
  left : IsKnown x.1
  same : x.1.is_dead ≡ d
  taken : d ≡ false → (t : ValType) × (x.0 ≡ Some t)

dead_known : (xs : List (Option ValType)) → IsKnown record { known = xs; is_dead = true }
dead_known xs = λ e. absurd cc

split_known : (xs : List (Option ValType)) (d : Bool) (x : Option ValType × Operands) → IsKnown record { known = xs; is_dead = d } → split xs d ≡ Some x → Taken d x
split_known [] false x h e = absurd cc
split_known [] true x h e =
    subst (λ z. Taken true z) (same_Some _ _ e) record { left = dead_known []; same = refl; taken = λ e0. absurd cc }
split_known (y ∷ ys) true x h e =
    subst (λ z. Taken true z) (same_Some _ _ e) record { left = dead_known ys; same = refl; taken = λ e0. absurd cc }
split_known (y ∷ ys) false x h e = go (h refl).0 (h refl).1
  where
    go : (ts : Stack) → y ∷ ys ≡ map Some ts → Taken false x
    go [] e0 = absurd cc
    go (t ∷ ts) e0 =
        let a : y ≡ Some t = cc in
        let b : ys ≡ map Some ts = cc in
        subst (λ z. Taken false z) (same_Some _ _ e) record { left = λ e1. (ts, b); same = refl; taken = λ e1. (t, a) }

any_known : (o : Operands) (x : Option ValType × Operands) → IsKnown o → pop_any o ≡ Some x → Taken o.is_dead x
any_known o x h e = split_known o.known o.is_dead x h e

one_known : (t : ValType) (o o1 : Operands) → IsKnown o → pop_one t o ≡ Some o1 → IsKnown o1 × (o1.is_dead ≡ o.is_dead)
one_known t o o1 h e =
    let x = on_some (pop_any o) _ o1 e in
    let y = when_some (fits x.0.0 t) (Some x.0.1) o1 x.2 in
    let k = any_known o x.0 h x.1 in
    subst (λ z. IsKnown z × (z.is_dead ≡ o.is_dead)) (same_Some _ _ y.1) (k.left, k.same)

all_known : (p : Stack) (o o1 : Operands) → IsKnown o → pop_all p o ≡ Some o1 → IsKnown o1
all_known [] o o1 h e = subst (λ z. IsKnown z) (same_Some _ _ e) h
all_known (t ∷ p) o o1 h e = let x = on_some (pop_one t o) (pop_all p) o1 e in all_known p x.0 o1 (one_known t o x.0 h x.1).0 x.2

put_known : (q : Stack) (o : Operands) → IsKnown o → IsKnown (push_list q o)
put_known q o h = λ e. let k = h e in (q ++ k.0, ap (λ z. map Some q ++ z) k.1 ∙ sym (map-append Some q k.0))

fresh_known : (p : Stack) → IsKnown (fresh p)
fresh_known p = put_known p record { known = []; is_dead = false } (λ e. ([], refl))

join_known : (x y z : Option ValType) (t u : ValType) → x ≡ Some t → y ≡ Some u → join x y ≡ Some z → z ≡ Some t
join_known x y z t u ex ey e =
    let w = when_some (same_type t u) (Some (Some t)) z (subst (λ v. join v (Some u) ≡ Some z) ex (subst (λ v. join x v ≡ Some z) ey e)) in
    sym (same_Some _ _ w.1)

apply_known : (r : Rule) (o o1 : Operands) → IsKnown o → apply r o ≡ Some o1 → IsKnown o1
apply_known (Takes p q) o o1 h e =
    let x = on_some (pop_all p o) _ o1 e in
    subst (λ z. IsKnown z) (same_Some _ _ x.2) (put_known q x.0 (all_known p o x.0 h x.1))
apply_known (Ends p) o o1 h e = let x = on_some (pop_all p o) _ o1 e in subst (λ z. IsKnown z) (same_Some _ _ x.2) (dead_known [])
apply_known Drops o o1 h e =
    let x = on_some (pop_any o) _ o1 e in subst (λ z. IsKnown z) (same_Some _ _ x.2) (any_known o x.0 h x.1).left
apply_known Selects o o1 h e =
    let a = on_some (pop_one I32 o) _ o1 e in
    let x = on_some (pop_any a.0) _ o1 a.2 in
    let y = on_some (pop_any x.0.1) _ o1 x.2 in
    let z = on_some (join x.0.0 y.0.0) _ o1 y.2 in
    let ka = one_known I32 o a.0 h a.1 in
    let kx = any_known a.0 x.0 ka.0 x.1 in
    let ky = any_known x.0.1 y.0 kx.left y.1 in
    subst (λ w. IsKnown w) (same_Some _ _ z.2) (chosen a.0 x.0 y.0 z.0 kx ky z.1)
  where
    chosen : (o : Operands) (x y : Option ValType × Operands) (z : Option ValType) → Taken o.is_dead x → Taken x.1.is_dead y → join x.0 y.0 ≡ Some z → IsKnown record { known = z ∷ y.1.known; is_dead = y.1.is_dead }
    chosen o x y z kx ky e = λ d.
        let dx : x.1.is_dead ≡ false = sym ky.same ∙ d in
        let t = kx.taken (sym kx.same ∙ dx) in
        let u = ky.taken dx in
        let rest = ky.left d in
        let ez = join_known x.0 y.0 z t.0 u.0 t.1 u.1 e in
        let er = rest.1 in
        (t.0 ∷ rest.0, cc)

opened_known : (is_then : Bool) (label : Stack) (s : FuncType) (f : Frame) (fs gs : List Frame) (o : Operands) → IsKnown o → AreKnown fs → open_frame is_then label s f fs o ≡ Some gs → AreKnown gs
opened_known is_then label s f fs gs o h k e =
    let x = on_some (pop_all (enter s) o) _ gs e in
    subst (λ z. AreKnown z) (same_Some _ _ x.2) (fresh_known (enter s), (all_known (enter s) o x.0 h x.1, k))

pass_known : (r : Stack) (fs : List Frame) → AreKnown fs → AreKnown (pass_on r fs)
pass_known r [] k = tt
pass_known r (f ∷ fs) k = (put_known r f.operands k.0, k.1)

step_known : (C : Context) (t : Token) (fs gs : List Frame) → AreKnown fs → step C t fs ≡ Some gs → AreKnown gs
step_known C t [] gs k e = absurd cc
step_known C (Do i) (f ∷ fs) gs k e =
    let r = on_some (rule (context_in C (f ∷ fs)) i) _ gs e in
    let o = on_some (apply r.0 f.operands) _ gs r.2 in
    subst (λ z. AreKnown z) (same_Some _ _ o.2) (apply_known r.0 f.operands o.0 k.0 o.1, k.1)
step_known C (OpenBlock t) (f ∷ fs) gs k e =
    let s = on_some (block_sig C.types t) _ gs e in opened_known false (leave s.0) s.0 f fs gs f.operands k.0 k.1 s.2
step_known C (OpenLoop t) (f ∷ fs) gs k e =
    let s = on_some (block_sig C.types t) _ gs e in opened_known false (enter s.0) s.0 f fs gs f.operands k.0 k.1 s.2
step_known C (OpenIf t) (f ∷ fs) gs k e =
    let s = on_some (block_sig C.types t) _ gs e in
    let o = on_some (pop_one I32 f.operands) _ gs s.2 in
    opened_known true (leave s.0) s.0 f fs gs o.0 (one_known I32 f.operands o.0 k.0 o.1).0 k.1 o.2
step_known C Else (f ∷ fs) gs k e =
    let a = when_some f.is_then _ gs e in
    let b = when_some (ends_with f.gives f.operands) _ gs a.1 in
    subst (λ z. AreKnown z) (same_Some _ _ b.1) (fresh_known f.starts, k.1)
step_known C End (f ∷ fs) gs k e =
    let a = when_some (ends_with f.gives f.operands) _ gs e in
    let b = when_some (may_lack_else f) _ gs a.1 in
    subst (λ z. AreKnown z) (same_Some _ _ b.1) (pass_known f.gives fs k.1)

run_known : (C : Context) (ts : List Token) (fs gs : List Frame) → AreKnown fs → run C ts fs ≡ Some gs → AreKnown gs
run_known C [] fs gs k e = subst (λ z. AreKnown z) (same_Some _ _ e) k
run_known C (t ∷ ts) fs gs k e = let x = on_some (step C t fs) (run C ts) gs e in run_known C ts x.0 gs (step_known C t fs x.0 k x.1) x.2

pub reached_is_known : ReachedIsKnown
reached_is_known C r front fs e = run_known (body_context r C) front (start r) fs (fresh_known [], tt) e
