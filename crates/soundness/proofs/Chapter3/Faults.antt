-- The laws of validation: the algorithm accepts a body exactly where it is typed, and else refuses it at its first fault.
-- They go by induction over the tokens (`accepted-run`, `refused-run`), and cite the walk over code (Walk.antt, Trees.antt, Parse.antt).
-- The laws of src/validation.rt cite them by their names, and Chapter4/Checked.antt cites `accepted_is_typed`.
use Rattle.std.proofs.Common.{◌≡◌, ℕ, zero, suc, ◌+◌, ◌-◌, ◌<◌, false, List, [], ◌∷◌, ◌++◌, length, length-append, take, drop, Option, Some, None, refl, sym, ap, ◌∙◌, subst, arith, inl, inr, add-one}
use Rattle.std.specs.Prelude.{◌⊎◌}
use Rattle.std.proofs.lemmas.Option.{same_Some}
use Rattle.std.proofs.lemmas.List.{take-append-drop, take_all}
use Rattle.std.proofs.lemmas.Bool.{cases_lt}
use Rattle.wsyntax.specs.Instructions.{Code, Token, End, flat, flat_body}
use Rattle.wsyntax.specs.Validation.Context.{Stack, Context, body_context}
use Rattle.wsyntax.specs.Validation.Typing.{Typed, BodyTyped}
use Rattle.wsyntax.specs.Validation.Algorithm.{on, when, Operands, fresh, ends_with, Frame, step, start, Verdict, Accepted, Refused, refused_or, alg_from, alg, run}
use Rattle.wsyntax.specs.Validation.FirstFault.{CanBeTyped, FirstFault}
use Rattle.wsyntax.specs.Validation.Laws.{AcceptedIsTyped, TypedIsAccepted, RefusedAtFirstFault, TypedWhereNoFault, TypedOrFault, OneFault, FaultInside, RunsDecide}
use Rattle.soundness.proofs.Chapter3.Basics.{on_some, on_to, when_some, when_to}
use Rattle.soundness.proofs.Chapter3.Match.{ends_with-back, ends_with-on}
use Rattle.soundness.proofs.Chapter3.Walk.{run-append, flat-onto, walk, run-walk}
use Rattle.soundness.proofs.Chapter3.Trees.{walk-back, walk-on}
use Rattle.soundness.proofs.Chapter3.Parse.{parse, parse_one, finish, run-finish}

-- the run of a body's tokens
abbrev Body : Context → Stack → Code → Option Operands
Body C r body = walk (body_context r C) body (fresh [])

abbrev Run : Context → Stack → List Token → Option (List Frame)
Run C r ts = run (body_context r C) ts (start r)

run-body : (C : Context) (r : Stack) (body : Code) → Run C r (flat_body body) ≡ on (Body C r body) (λ o. run (body_context r C) (End ∷ []) (record { is_then = false; label = r; starts = []; gives = r; operands = o } ∷ []))
run-body C r body =
    ap (λ ts. Run C r ts) (flat-onto body (End ∷ []))
    ∙ run-walk body (body_context r C) record { is_then = false; label = r; starts = []; gives = r; operands = fresh [] } [] (End ∷ [])

-- what is left after a body's tokens
ran : (C : Context) (r : Stack) (body : Code) (gs : List Frame) → Run C r (flat_body body) ≡ Some gs → BodyTyped C r body × (gs ≡ [])
ran C r body gs e =
    let o = on_some (Body C r body) _ gs (sym (run-body C r body) ∙ e) in
    let x = on_some (when (ends_with r o.0) (Some [])) (run (body_context r C) []) gs o.2 in
    let y = when_some (ends_with r o.0) (Some []) x.0 x.1 in
    let b = walk-back body (body_context r C) (fresh []) o.0 r o.1 (ends_with-back r o.0 y.0) in
    (subst (λ a. Typed (body_context r C) body a r) b.1 b.2, sym (same_Some _ _ x.2) ∙ sym (same_Some _ _ y.1))

runs : (C : Context) (r : Stack) (body : Code) → BodyTyped C r body → Run C r (flat_body body) ≡ Some []
runs C r body h =
    let w = walk-on body (body_context r C) (fresh []) [] r h refl in
    run-body C r body ∙ on_to (Body C r body) _ w.0 _ w.1 (on_to (when (ends_with r w.0) (Some [])) (run (body_context r C) []) [] _ (when_to (ends_with r w.0) _ _ (ends_with-on r w.0 w.2) refl) refl)

-- the verdict, and the run
pub accepted-run : (C : Context) (ts : List Token) (fs : List Frame) (k : ℕ) → alg_from C ts fs k ≡ Accepted → run C ts fs ≡ Some []
accepted-run C [] [] k e = refl
accepted-run C [] (f ∷ fs) k e = absurd cc
accepted-run C (t ∷ ts) fs k e =
    (elim (step C t fs) as (λ x. refused_or k x (λ gs. alg_from C ts gs (k + 1)) ≡ Accepted → on x (run C ts) ≡ Some []) [
      | None ↦ λ h. absurd cc
      | Some gs ↦ λ h. accepted-run C ts gs (k + 1) h
    ]) e

run-accepted : (C : Context) (ts : List Token) (fs : List Frame) (k : ℕ) → run C ts fs ≡ Some [] → alg_from C ts fs k ≡ Accepted
run-accepted C [] [] k e = refl
run-accepted C [] (f ∷ fs) k e = absurd cc
run-accepted C (t ∷ ts) fs k e =
    (elim (step C t fs) as (λ x. on x (run C ts) ≡ Some [] → refused_or k x (λ gs. alg_from C ts gs (k + 1)) ≡ Accepted) [
      | None ↦ λ h. absurd cc
      | Some gs ↦ λ h. run-accepted C ts gs (k + 1) h
    ]) e

-- where the algorithm refuses the token at the position j, from the position k on
record RefusedAt (C : Context) (ts : List Token) (fs : List Frame) (i : ℕ) : Type 0 where
  here : run C (take (suc i) ts) fs ≡ None
  before : (m : ℕ) → m < i → (gs : List Frame) × (run C (take (suc m) ts) fs ≡ Some gs)

-- the tokens are used up, and frames are open
LeftOpen : Context → List Token → List Frame → Type 0
LeftOpen C ts fs = (f : Frame) × (gs : List Frame) × (run C ts fs ≡ Some (f ∷ gs))

refused_none : (C : Context) (t : Token) (ts : List Token) (fs : List Frame) → step C t fs ≡ None → RefusedAt C (t ∷ ts) fs 0
refused_none C t ts fs e = record { here = rw e refl; before = λ m h. absurd (omega arith) }

refused_next : (C : Context) (t : Token) (ts : List Token) (fs gs : List Frame) (i : ℕ) → step C t fs ≡ Some gs → RefusedAt C ts gs i → RefusedAt C (t ∷ ts) fs (suc i)
refused_next C t ts fs gs i e r = record {
  here = on_to (step C t fs) (run C (take (suc i) ts)) gs _ e r.here;
  before = elim [ zero ↦ λ h. (gs, on_to (step C t fs) (run C []) gs _ e refl) | suc m ↦ λ h. let b = r.before m (omega arith) in (b.0, on_to (step C t fs) (run C (take (suc m) ts)) gs _ e b.1) ];
}

refused-run : (C : Context) (ts : List Token) (fs : List Frame) (k j : ℕ) → alg_from C ts fs k ≡ Refused j → LeftOpen C ts fs ⊎ ((i : ℕ) × (j ≡ k + i) × RefusedAt C ts fs i)
unfolding LeftOpen
refused-run C [] [] k j e = absurd cc
refused-run C [] (f ∷ fs) k j e = inl (f, fs, refl)
refused-run C (t ∷ ts) fs k j e = go (λ gs. refused-run C ts gs (k + 1) j) (step C t fs) refl e
  where
    after : (gs : List Frame) → step C t fs ≡ Some gs → LeftOpen C ts gs ⊎ ((i : ℕ) × (j ≡ (k + 1) + i) × RefusedAt C ts gs i) → LeftOpen C (t ∷ ts) fs ⊎ ((i : ℕ) × (j ≡ k + i) × RefusedAt C (t ∷ ts) fs i)
    after gs e0 h =
        elim h [
          | inl a ↦ inl (a.0, a.1, on_to (step C t fs) (run C ts) gs _ e0 a.2)
          | inr b ↦ inr (suc b.0, omega (arith, b.1), refused_next C t ts fs gs b.0 e0 b.2)
        ]

    go : ((gs : List Frame) → alg_from C ts gs (k + 1) ≡ Refused j → LeftOpen C ts gs ⊎ ((i : ℕ) × (j ≡ (k + 1) + i) × RefusedAt C ts gs i)) → (x : Option (List Frame)) → step C t fs ≡ x → refused_or k x (λ gs. alg_from C ts gs (k + 1)) ≡ Refused j → LeftOpen C (t ∷ ts) fs ⊎ ((i : ℕ) × (j ≡ k + i) × RefusedAt C (t ∷ ts) fs i)
    go ih None e0 h = inr (0, (let q : k ≡ j = cc in omega arith), refused_none C t ts fs e0)
    go ih (Some gs) e0 h = after gs e0 (ih gs h)

pub accepted_is_typed : AcceptedIsTyped
accepted_is_typed C r body e = (ran C r body [] (accepted-run (body_context r C) (flat_body body) (start r) 0 e)).0

pub typed_is_accepted : TypedIsAccepted
typed_is_accepted C r body h = run-accepted (body_context r C) (flat_body body) (start r) 0 (runs C r body h)

body_refused : (C : Context) (r : Stack) (body : Code) (k : ℕ) → alg C r (flat_body body) ≡ Refused k → RefusedAt (body_context r C) (flat_body body) (start r) k
unfolding LeftOpen
body_refused C r body k e =
    elim (refused-run (body_context r C) (flat_body body) (start r) 0 k e) [
      | inl a ↦ absurd (let no = (ran C r body (a.0 ∷ a.1) a.2).1 in cc)
      | inr b ↦ let same : b.0 ≡ k = omega (arith, b.1) in subst (λ i. RefusedAt (body_context r C) (flat_body body) (start r) i) same b.2
    ]

-- a front that the algorithm takes begins a typed body
finished : (C : Context) (fs : List Frame) → run C (finish fs) fs ≡ Some []
finished C [] = refl
finished C (f ∷ fs) = run-finish C fs f

taken : (C : Context) (r : Stack) (front : List Token) (gs : List Frame) → Run C r front ≡ Some gs → CanBeTyped C r front
taken C r front gs e =
    let all : Run C r (front ++ finish gs) ≡ Some [] = run-append (body_context r C) front (finish gs) (start r) ∙ on_to (Run C r front) (run (body_context r C) (finish gs)) gs _ e (finished (body_context r C) gs) in
    let c = parse_one (front ++ finish gs) (parse (body_context r C) (front ++ finish gs) (start r) all) in
    let same : flat_body c.0 ≡ front ++ finish gs = flat-onto c.0 (End ∷ []) ∙ sym c.1 in
    (c.0, finish gs, same, (ran C r c.0 [] (ap (λ ts. Run C r ts) same ∙ all)).0)

-- and no other
begins : (C : Context) (r : Stack) (front : List Token) → CanBeTyped C r front → (gs : List Frame) × (Run C r front ≡ Some gs)
begins C r front h =
    let all = sym (run-append (body_context r C) front h.1 (start r)) ∙ ap (λ ts. Run C r ts) (sym h.2) ∙ runs C r h.0 h.3 in
    let a = on_some (Run C r front) (run (body_context r C) h.1) [] all in (a.0, a.1)

fault_of : (C : Context) (r : Stack) (body : Code) (k : ℕ) → alg C r (flat_body body) ≡ Refused k → FirstFault C r body k
fault_of C r body k e =
    let refused = body_refused C r body k e in
    record {
      lost = λ h.
          let b = begins C r (take (k + 1) (flat_body body)) h in
          let here = rw (← (add-one k)) at refused.here in
          absurd cc;
      before = λ j h. let b = refused.before j h in rw (add-one j) (taken C r (take (suc j) (flat_body body)) b.0 b.1);
    }

-- there is one at most
fault_same : (C : Context) (r : Stack) (body : Code) (j k : ℕ) → FirstFault C r body j → FirstFault C r body k → j ≡ k
fault_same C r body j k a b =
    elim (cases_lt j k) [
      | inl h ↦ absurd (a.lost (b.before j h))
      | inr h ↦ elim (cases_lt k j) [ inl g ↦ absurd (b.lost (a.before k g)) | inr g ↦ omega arith ]
    ]

of_fault : (C : Context) (r : Stack) (body : Code) (k : ℕ) → FirstFault C r body k → (v : Verdict) → alg C r (flat_body body) ≡ v → v ≡ Refused k
of_fault C r body k f Accepted e =
    absurd (f.lost (body, drop (k + 1) (flat_body body), sym (take-append-drop (k + 1) (flat_body body)), accepted_is_typed C r body e))
of_fault C r body k f (Refused j) e = ap Refused (fault_same C r body j k (fault_of C r body j e) f)

pub refused_at_first_fault : RefusedAtFirstFault
refused_at_first_fault C r body k = (fault_of C r body k, λ f. of_fault C r body k f (alg C r (flat_body body)) refl)

no_fault : (C : Context) (r : Stack) (body : Code) → ((k : ℕ) → FirstFault C r body k → ⊥) → (v : Verdict) → alg C r (flat_body body) ≡ v → BodyTyped C r body
no_fault C r body none Accepted e = accepted_is_typed C r body e
no_fault C r body none (Refused k) e = absurd (none k (fault_of C r body k e))

pub typed_where_no_fault : TypedWhereNoFault
typed_where_no_fault C r body = (
  λ none. no_fault C r body none (alg C r (flat_body body)) refl,
  λ h k f. f.lost (body, drop (k + 1) (flat_body body), sym (take-append-drop (k + 1) (flat_body body)), h),
)

-- Every body is typed or has one first fault.

chosen : (C : Context) (r : Stack) (body : Code) (v : Verdict) → alg C r (flat_body body) ≡ v → BodyTyped C r body ⊎ ((k : ℕ) × FirstFault C r body k)
chosen C r body Accepted e = inl (accepted_is_typed C r body e)
chosen C r body (Refused k) e = inr (k, fault_of C r body k e)

pub typed_or_fault : TypedOrFault
typed_or_fault C r body = chosen C r body (alg C r (flat_body body)) refl

pub one_fault : OneFault
one_fault = fault_same

-- a body has a token, its last `end`
some_token : (body : Code) → 0 < length (flat_body body)
some_token body = omega (arith, length-append (flat body) (End ∷ []))

pub fault_inside : FaultInside
fault_inside C r body k f =
    let n = length (flat_body body) in
    let some : 0 < n = some_token body in
    elim (cases_lt k n) [
      | inl h ↦ h
      | inr h ↦
          let last : n - 1 < k = omega arith in
          let whole : take (n - 1 + 1) (flat_body body) ≡ take (k + 1) (flat_body body) = take_all (n - 1 + 1) (flat_body body) (omega arith) ∙ sym (take_all (k + 1) (flat_body body) (omega arith)) in
          absurd (f.lost (subst (CanBeTyped C r) whole (f.before (n - 1) last)))
    ]

-- The verdict by the frames.

refuses-from : (C : Context) (front rest : List Token) (t : Token) (gs fs : List Frame) (k : ℕ) → run C front gs ≡ Some fs → step C t fs ≡ None → alg_from C (front ++ t ∷ rest) gs k ≡ Refused (k + length front)
refuses-from C [] rest t gs fs k e none =
    let are : gs ≡ fs = same_Some gs fs e in
    let here : step C t gs ≡ None = ap (step C t) are ∙ none in
    let same : k ≡ k + 0 = omega arith in
    ap (λ x. refused_or k x (λ hs. alg_from C rest hs (k + 1))) here ∙ ap Refused same
refuses-from C (u ∷ us) rest t gs fs k e none =
    let h = on_some (step C u gs) (run C us) fs e in
    let same : (k + 1) + length us ≡ k + suc (length us) = omega arith in
    ap (λ x. refused_or k x (λ hs. alg_from C (us ++ t ∷ rest) hs (k + 1))) h.1 ∙ (refuses-from C us rest t h.0 fs (k + 1) h.2 none ∙ ap Refused same)

lacks-from : (C : Context) (ts : List Token) (gs : List Frame) (f : Frame) (fs : List Frame) (k : ℕ) → run C ts gs ≡ Some (f ∷ fs) → alg_from C ts gs k ≡ Refused (k + length ts)
lacks-from C [] [] f fs k e = absurd cc
lacks-from C [] (g ∷ gs) f fs k e = ap Refused (omega arith)
lacks-from C (t ∷ ts) gs f fs k e =
    let h = on_some (step C t gs) (run C ts) (f ∷ fs) e in
    let same : (k + 1) + length ts ≡ k + suc (length ts) = omega arith in
    ap (λ x. refused_or k x (λ hs. alg_from C ts hs (k + 1))) h.1 ∙ (lacks-from C ts h.0 f fs (k + 1) h.2 ∙ ap Refused same)

pub runs_decide : RunsDecide
runs_decide = record {
  accepts = λ C r tokens e. run-accepted (body_context r C) tokens (start r) 0 e;
  refuses = λ C r front rest t fs e none. refuses-from (body_context r C) front rest t (start r) fs 0 e none ∙ ap Refused (omega arith);
  lacks = λ C r tokens f fs e. lacks-from (body_context r C) tokens (start r) f fs 0 e ∙ ap Refused (omega arith);
}
