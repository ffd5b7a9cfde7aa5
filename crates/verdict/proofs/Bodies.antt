-- The computed refusal of a body is why the body is refused.
use Rattle.std.proofs.Common.{◌≡◌, ℕ, ◌<◌, ◌≤◌, Bool, true, false, cond, eqb, leb, List, [], ◌++◌, length, Option, Some, None, refl, sym, ap, subst, ◌∙◌, arith}
use Rattle.std.proofs.lemmas.Bool.{eqb-true, leb-true, leb-false, le-leb}
use Rattle.std.proofs.lemmas.List.{append-nil, nil_from_length}
use Rattle.wsyntax.specs.Instructions.{Code, flat_body}
use Rattle.wsyntax.specs.Modules.{BodyShape}
use Rattle.wsyntax.specs.Binary.Production.{Production, Agrees, whole_at}
use Rattle.wsyntax.specs.Binary.Nesting.{expression}
use Rattle.wsyntax.specs.Binary.Sections.{body, locals_of}
use Rattle.wsyntax.specs.Binary.Shell.{SpellsBody, FewLocals, local_limit}
use Rattle.wsyntax.specs.Validation.Context.{Context}
use Rattle.wsyntax.specs.Validation.Algorithm.{Verdict, Accepted, Refused, alg}
use Rattle.wsyntax.specs.Validation.Laws.{AcceptedIsTyped, RefusedAtFirstFault}
use Rattle.wsyntax.specs.Validation.ModuleContext.{function_context}
use Rattle.wsyntax.specs.Validation.Verdict.{IsAccepted, IsRefused, result_of}
use Rattle.refusal.specs.declared.refusal.BodyRefusal.{BodyRefusal}
use Rattle.refusal.specs.declared.refusal.BodyRefusal.TheVariants.{Malformed, TooManyLocals, IllTyped}
use Rattle.verdict.specs.Judged.{typing_refusal, shape_refusal, read_refusal, body_refusal_of}
use Rattle.refusal.specs.Refusals.{fault_of}

some_is : {A : Type 0} (a c : A) → Some a ≡ Some c → a ≡ c
some_is a c e = cc

-- ---- what the whole of some bytes spells

guarded : {A : Type 0} (o : Option (A × List ℕ)) (a : A) → whole_at (λ s. o) [] ≡ Some a → (rest : List ℕ) × (o ≡ Some (a, rest)) × (rest ≡ [])
guarded None a e = absurd cc
guarded {A} (Some x) a e = behind x (eqb (length x.1) 0) refl e
  where
    behind : (x : A × List ℕ) (t : Bool) → eqb (length x.1) 0 ≡ t → cond t (Some x.0) None ≡ Some a → (rest : List ℕ) × (Some x ≡ Some (a, rest)) × (rest ≡ [])
    behind x true is e = (x.1, ap (λ (y : A). Some (y, x.1)) (some_is x.0 a e), nil_from_length x.1 (eqb-true _ _ is))
    behind x false is e = absurd cc

pub whole_spells : {A : Type 0} (p : Production A) → Agrees p → (bytes : List ℕ) (a : A) → whole_at p.read bytes ≡ Some a → p.spells bytes a
whole_spells p agrees bytes a e =
    let f = guarded (p.read bytes) a e in
    let t = agrees.sound bytes a f.0 f.1 in
    let is : t.0 ≡ bytes = sym (t.2 ∙ ap (λ (r : List ℕ). t.0 ++ r) f.2 ∙ append-nil t.0) in
    subst (λ (x : List ℕ). p.spells x a) is t.1

pub spells_whole : {A : Type 0} (p : Production A) → Agrees p → (bytes : List ℕ) (a : A) → p.spells bytes a → whole_at p.read bytes ≡ Some a
spells_whole p agrees bytes a h =
    let all : p.read bytes ≡ Some (a, []) = ap p.read (sym (append-nil bytes)) ∙ agrees.complete bytes a [] h in
    rw all refl

-- the tokens of a spelled body are those of a tree
pub tree_of : (bytes : List ℕ) (b : BodyShape) → SpellsBody bytes b → (code : Code) × (flat_body code ≡ b.code)
unfolding body expression
tree_of bytes b s =
    let u = s.5 in
    (u.4.0, sym u.4.2 ∙ ap (λ (x : BodyShape). x.code) (some_is record { runs = s.2; code = u.2 } b u.5.1))

-- ---- accepted bodies

passes : (t : Bool) (v : Verdict) → cond t (typing_refusal v) (Some TooManyLocals) ≡ None → (t ≡ true) × (v ≡ Accepted)
passes true Accepted e = (refl, refl)
passes true (Refused k) e = absurd cc
passes false v e = absurd cc

accepted_body : (C : Context) (f : ℕ) (bytes : List ℕ) (b : BodyShape) → AcceptedIsTyped → SpellsBody bytes b → shape_refusal C f b ≡ None → IsAccepted C f bytes
accepted_body C f bytes b law s e =
    let D = function_context C f b.runs in
    let r = result_of C f in
    let p = passes (leb (locals_of b.runs) local_limit) (alg D r b.code) e in
    let t = tree_of bytes b s in
    record { body = b; code = t.0; spelled = s; few = leb-true _ _ p.0; tree = t.1; typed = law D r t.0 (ap (alg D r) t.1 ∙ p.1) }

accepted_read : (C : Context) (f : ℕ) (bytes : List ℕ) (o : Option BodyShape) → AcceptedIsTyped → ((b : BodyShape) → o ≡ Some b → SpellsBody bytes b) → read_refusal C f o ≡ None → IsAccepted C f bytes
accepted_read C f bytes None law s e = absurd cc
accepted_read C f bytes (Some b) law s e = accepted_body C f bytes b law (s b refl) e

pub accepted_where_none : Agrees body → AcceptedIsTyped → (C : Context) (f : ℕ) (bytes : List ℕ) → body_refusal_of C f bytes ≡ None → IsAccepted C f bytes
unfolding body_refusal_of
accepted_where_none agrees law C f bytes e = accepted_read C f bytes (whole_at body.read bytes) law (λ b is. whole_spells body agrees bytes b is) e

-- ---- refused bodies

refused_typing : (C : Context) (f : ℕ) (bytes : List ℕ) (b : BodyShape) (v : Verdict) (c : BodyRefusal) → RefusedAtFirstFault → SpellsBody bytes b → FewLocals b → alg (function_context C f b.runs) (result_of C f) b.code ≡ v → typing_refusal v ≡ Some c → IsRefused C f bytes (fault_of c)
refused_typing C f bytes b Accepted c law s few is e = absurd cc
refused_typing C f bytes b (Refused k) c law s few is e =
    let D = function_context C f b.runs in
    let r = result_of C f in
    let t = tree_of bytes b s in
    subst (λ (x : BodyRefusal). IsRefused C f bytes (fault_of x)) (some_is (IllTyped k) c e)
    record { body = b; code = t.0; spelled = s; few = few; tree = t.1; fault = (law D r t.0 k).0 (ap (alg D r) t.1 ∙ is) }

refused_body : (C : Context) (f : ℕ) (bytes : List ℕ) (b : BodyShape) (t : Bool) (c : BodyRefusal) → RefusedAtFirstFault → SpellsBody bytes b → leb (locals_of b.runs) local_limit ≡ t → cond t (typing_refusal (alg (function_context C f b.runs) (result_of C f) b.code)) (Some TooManyLocals) ≡ Some c → IsRefused C f bytes (fault_of c)
refused_body C f bytes b true c law s is e = refused_typing C f bytes b (alg (function_context C f b.runs) (result_of C f) b.code) c law s (leb-true _ _ is) refl e
refused_body C f bytes b false c law s is e =
    subst (λ (x : BodyRefusal). IsRefused C f bytes (fault_of x)) (some_is TooManyLocals c e) (b, s, leb-false _ _ is)

refused_read : (C : Context) (f : ℕ) (bytes : List ℕ) (o : Option BodyShape) (c : BodyRefusal) → RefusedAtFirstFault → ((b : BodyShape) → o ≡ Some b → SpellsBody bytes b) → ((b : BodyShape) → SpellsBody bytes b → o ≡ Some b) → read_refusal C f o ≡ Some c → IsRefused C f bytes (fault_of c)
refused_read C f bytes None c law s n e =
    subst (λ (x : BodyRefusal). IsRefused C f bytes (fault_of x)) (some_is Malformed c e) (λ b h. nothing b (n b h))
  where
    nothing : (b : BodyShape) → None ≡ Some b → ⊥
    nothing b is = cc
refused_read C f bytes (Some b) c law s n e = refused_body C f bytes b (leb (locals_of b.runs) local_limit) c law (s b refl) refl e

pub refused_where_some : Agrees body → RefusedAtFirstFault → (C : Context) (f : ℕ) (bytes : List ℕ) (c : BodyRefusal) → body_refusal_of C f bytes ≡ Some c → IsRefused C f bytes (fault_of c)
unfolding body_refusal_of
refused_where_some agrees law C f bytes c e = refused_read C f bytes (whole_at body.read bytes) c law (λ b is. whole_spells body agrees bytes b is) (λ b h. spells_whole body agrees bytes b h) e

-- ---- the refusal by what is known of the bytes

read_none : (C : Context) (f : ℕ) (o : Option BodyShape) → ((b : BodyShape) → o ≡ Some b → ⊥) → read_refusal C f o ≡ Some Malformed
read_none C f None never = refl
read_none C f (Some b) never = absurd (never b refl)

pub refusal_malformed : Agrees body → (C : Context) (f : ℕ) (bytes : List ℕ) → ((b : BodyShape) → SpellsBody bytes b → ⊥) → body_refusal_of C f bytes ≡ Some Malformed
unfolding body_refusal_of
refusal_malformed agrees C f bytes never = read_none C f (whole_at body.read bytes) (λ b is. never b (whole_spells body agrees bytes b is))

chosen_many : (v : Option BodyRefusal) (n : ℕ) (t : Bool) → local_limit < n → leb n local_limit ≡ t → cond t v (Some TooManyLocals) ≡ Some TooManyLocals
chosen_many v n true lt is = let le : n ≤ local_limit = leb-true _ _ is in absurd (omega arith)
chosen_many v n false lt is = refl

pub refusal_too_many : Agrees body → (C : Context) (f : ℕ) (bytes : List ℕ) (b : BodyShape) → SpellsBody bytes b → local_limit < locals_of b.runs → body_refusal_of C f bytes ≡ Some TooManyLocals
unfolding body_refusal_of
refusal_too_many agrees C f bytes b s lt =
    ap (read_refusal C f) (spells_whole body agrees bytes b s)
    ∙ chosen_many (typing_refusal (alg (function_context C f b.runs) (result_of C f) b.code)) (locals_of b.runs) (leb (locals_of b.runs) local_limit) lt refl

pub refusal_typing : Agrees body → (C : Context) (f : ℕ) (bytes : List ℕ) (b : BodyShape) (v : Verdict) → SpellsBody bytes b → FewLocals b → alg (function_context C f b.runs) (result_of C f) b.code ≡ v → body_refusal_of C f bytes ≡ typing_refusal v
unfolding body_refusal_of
refusal_typing agrees C f bytes b v s few is =
    ap (read_refusal C f) (spells_whole body agrees bytes b s)
    ∙ ap (λ (t : Bool). cond t (typing_refusal (alg (function_context C f b.runs) (result_of C f) b.code)) (Some TooManyLocals)) (le-leb _ _ few)
    ∙ ap typing_refusal is
