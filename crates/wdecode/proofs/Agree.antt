-- Reading agrees with spelling, for each word that productions are built of.
use Rattle.std.proofs.Common.{◌≡◌, ℕ, zero, suc, ◌≤◌, Bool, true, false, cond, eqb, ltb, List, [], ◌∷◌, ◌++◌, length, take, drop, Option, Some, None, ◌⊎◌, inl, inr, refl, sym, ap, subst, ◌∙◌, append_assoc, arith}
use Rattle.std.proofs.lemmas.Bool.{eqb-true, ltb-false, le-ltb}
use Rattle.std.proofs.lemmas.List.{take_at, drop_at, take-append-drop, length-append, length-take, append-nil, nil_from_length}
use Rattle.wnum.specs.Reading.{◌>>=◌}
use Rattle.std.specs.Str.{is_utf8}
use Rattle.std.proofs.lemmas.Str.{IsUtf8-from_is_utf8, is_utf8-from_IsUtf8}
use Rattle.wnum.proofs.Numbers.{bind_some, unsigned_reads, signed_reads}
use Rattle.wsyntax.specs.Binary.Production.{Production, Agrees, byte_at, byte, given, pure, exactly, or_read, either, raw, times_at, SpellsAll, times, whole_at, inside, begins}
use Rattle.wsyntax.specs.Binary.Values.{u32, s32, s33, s64, vector, blob, text, name}
use Rattle.wsyntax.specs.Binary.Production as p

pub pair_is : {A B : Type 0} (a c : A) (b d : B) → ◌≡◌ {A = Option (A × B)} (Some (a, b)) (Some (c, d)) → (a ≡ c) × (b ≡ d)
pair_is {A} {B} a c b d e =
    let left : A × B = (a, b) in
    let right : A × B = (c, d) in
    let s : left ≡ right = cc in
    (ap (λ (x : A × B). x.0) s, ap (λ (x : A × B). x.1) s)

some_is : {A : Type 0} (a c : A) → Some a ≡ Some c → a ≡ c
some_is a c e = cc

pub byte_agrees : Agrees byte
byte_agrees = record { sound = sound; complete = λ front a rest s. ap (λ (f : List ℕ). byte_at (f ++ rest)) s }
  where
    sound : (bytes : List ℕ) (a : ℕ) (rest : List ℕ) → byte_at bytes ≡ Some (a, rest) → (front : List ℕ) × (front ≡ a ∷ []) × (bytes ≡ front ++ rest)
    sound [] a rest e = absurd cc
    sound (b ∷ bs) a rest e =
        let same = pair_is b a bs rest e in
        (a ∷ [], refl, ap (λ (x : ℕ). x ∷ bs) same.0 ∙ ap (λ (r : List ℕ). a ∷ r) same.1)

pub given_agrees : {A : Type 0} (o : Option A) → Agrees (given o)
given_agrees {A} o = record {
  sound = λ bytes a rest e.
      let f = bind_some o (λ x. Some (x, bytes)) (a, rest) e in
      let same = pair_is f.0 a bytes rest f.2 in
      ([], (refl, f.1 ∙ ap (λ (x : A). Some x) same.0), same.1);
  complete = λ front a rest s. rw (s.1, s.0) refl;
}

pub bind_agrees : {A B : Type 0} (q : Production A) (f : A → Production B) → Agrees q → ((a : A) → Agrees (f a)) → Agrees (p.◌>>=◌ q f)
bind_agrees {A} {B} q f q_agrees f_agrees = record {
  sound = λ bytes b rest e.
      let found = bind_some (q.read bytes) (λ x. (f x.0).read x.1) (b, rest) e in
      let first = q_agrees.sound bytes found.0.0 found.0.1 found.1 in
      let second = (f_agrees found.0.0).sound found.0.1 b rest found.2 in
      (first.0 ++ second.0, (first.0, second.0, found.0.0, refl, first.1, second.1), first.2 ∙ ap (λ (r : List ℕ). first.0 ++ r) second.2 ∙ sym (append_assoc first.0 second.0 rest));
  complete = λ front b rest s.
      let is : front ++ rest ≡ s.0 ++ (s.1 ++ rest) = ap (λ (r : List ℕ). r ++ rest) s.3 ∙ append_assoc s.0 s.1 rest in
      let one = q_agrees.complete s.0 s.2 (s.1 ++ rest) s.4 in
      let two = (f_agrees s.2).complete s.1 b rest s.5 in
      rw (is, one) two;
}

pub exactly_agrees : (b : ℕ) → Agrees (exactly b)
exactly_agrees b = bind_agrees byte _ byte_agrees λ c. given_agrees _

either_some : {A : Type 0} (x y : Option (A × List ℕ)) (z : A × List ℕ) → or_read x y ≡ Some z → (x ≡ Some z) ⊎ (y ≡ Some z)
either_some (Some x) y z e = inl e
either_some None y z e = inr e

-- one production or another, where what the second spells the first does not read
pub either_agrees : {A : Type 0} (q r : Production A) → Agrees q → Agrees r → ((front : List ℕ) (a : A) (rest : List ℕ) → r.spells front a → q.read (front ++ rest) ≡ None) → Agrees (either q r)
either_agrees {A} q r q_agrees r_agrees apart = record {
  sound = λ bytes a rest e. elim (either_some (q.read bytes) (r.read bytes) (a, rest) e) [
    | inl h ↦ let f = q_agrees.sound bytes a rest h in (f.0, inl f.1, f.2)
    | inr h ↦ let f = r_agrees.sound bytes a rest h in (f.0, inr f.1, f.2)
  ];
  complete = λ front a rest s. elim s [
    | inl h ↦ rw (q_agrees.complete front a rest h) refl
    | inr h ↦ rw (apart front a rest h) (r_agrees.complete front a rest h)
  ];
}

pub u32_agrees : Agrees u32
u32_agrees = unsigned_reads 32

pub s32_agrees : Agrees s32
s32_agrees = signed_reads 32

pub s33_agrees : Agrees s33
s33_agrees = signed_reads 33

pub s64_agrees : Agrees s64
s64_agrees = signed_reads 64

guard_not : {A : Type 0} (b : Bool) (x y : A) → cond b None (Some x) ≡ Some y → (b ≡ false) × (x ≡ y)
guard_not true x y e = absurd cc
guard_not false x y e = (refl, cc)

guard_is : {A : Type 0} (b : Bool) (x y : A) → cond b (Some x) None ≡ Some y → (b ≡ true) × (x ≡ y)
guard_is true x y e = (refl, cc)
guard_is false x y e = absurd cc

pub raw_agrees : (n : ℕ) → Agrees (raw n)
raw_agrees n = record {
  sound = λ bytes s rest e.
      let g = guard_not (ltb (length bytes) n) (take n bytes, drop n bytes) (s, rest) e in
      let long : n ≤ length bytes = ltb-false _ _ g.0 in
      let front : take n bytes ≡ s = ap (λ (x : List ℕ × List ℕ). x.0) g.1 in
      let left : drop n bytes ≡ rest = ap (λ (x : List ℕ × List ℕ). x.1) g.1 in
      (s, (refl, omega (arith, length-take n bytes, ap length front)), sym (take-append-drop n bytes) ∙ ap (λ (f : List ℕ). f ++ drop n bytes) front ∙ ap (λ (r : List ℕ). s ++ r) left);
  complete = λ front s rest h.
      let long : ltb (length (s ++ rest)) n ≡ false = le-ltb _ _ (omega (arith, length-append s rest, h.1)) in
      rw (h.0, long, take_at s rest n h.1, drop_at s rest n h.1) refl;
}

-- n values
abbrev pub IsTimes : {A : Type 0} → (List ℕ → A → Type 0) → ℕ → List ℕ → List A × List ℕ → Type 0
IsTimes spells n bytes x = (front : List ℕ) × ((length x.0 ≡ n) × SpellsAll spells front x.0) × (bytes ≡ front ++ x.1)

pub times_sound : {A : Type 0} (q : Production A) → Agrees q → (n : ℕ) (bytes : List ℕ) (x : List A × List ℕ) → times_at q.read n bytes ≡ Some x → IsTimes q.spells n bytes x
times_sound {A} q agrees zero bytes x e =
    let made : List A × List ℕ = ([], bytes) in
    subst (IsTimes q.spells 0 bytes) (some_is made x e) ([], (refl, refl), refl)
times_sound {A} q agrees (suc n) bytes x e =
    let a = bind_some (q.read bytes) (λ first. times_at q.read n first.1 >>= λ others. Some (first.0 ∷ others.0, others.1)) x e in
    let b = bind_some (times_at q.read n a.0.1) (λ others. Some (a.0.0 ∷ others.0, others.1)) x a.2 in
    let first = agrees.sound bytes a.0.0 a.0.1 a.1 in
    let others = times_sound q agrees n a.0.1 b.0 b.1 in
    let made : List A × List ℕ = (a.0.0 ∷ b.0.0, b.0.1) in
    let is : made ≡ x = some_is made x b.2 in
    subst (IsTimes q.spells (suc n) bytes) is
    (first.0 ++ others.0, (ap suc others.1.0, (first.0, others.0, refl, first.1, others.1.1)), first.2 ∙ ap (λ (r : List ℕ). first.0 ++ r) others.2 ∙ sym (append_assoc first.0 others.0 b.0.1))

times_complete : {A : Type 0} (q : Production A) → Agrees q → (values : List A) (front rest : List ℕ) → SpellsAll q.spells front values → times_at q.read (length values) (front ++ rest) ≡ Some (values, rest)
times_complete q agrees [] front rest s = rw s refl
times_complete q agrees (a ∷ values) front rest s =
    let is : front ++ rest ≡ s.0 ++ (s.1 ++ rest) = ap (λ (r : List ℕ). r ++ rest) s.2 ∙ append_assoc s.0 s.1 rest in
    rw (is, agrees.complete s.0 a (s.1 ++ rest) s.3, times_complete q agrees values s.1 rest s.4) refl

pub times_agrees : {A : Type 0} (n : ℕ) (q : Production A) → Agrees q → Agrees (times n q)
times_agrees n q agrees = record {
  sound = λ bytes values rest e. times_sound q agrees n bytes (values, rest) e;
  complete = λ front values rest s. ap (λ (k : ℕ). times_at q.read k (front ++ rest)) (sym s.0) ∙ times_complete q agrees values front rest s.1;
}

pub vector_agrees : {A : Type 0} (q : Production A) → Agrees q → Agrees (vector q)
vector_agrees q agrees = bind_agrees u32 (λ n. times n q) u32_agrees (λ n. times_agrees n q agrees)

pub whole_sound : {A : Type 0} (q : Production A) → Agrees q → (s : List ℕ) (a : A) → whole_at q.read s ≡ Some a → q.spells s a
whole_sound {A} q agrees s a e =
    let f = bind_some (q.read s) (λ found. cond (eqb (length found.1) 0) (Some found.0) None) a e in
    let g = guard_is (eqb (length f.0.1) 0) f.0.0 a f.2 in
    let t = agrees.sound s f.0.0 f.0.1 f.1 in
    let nothing : f.0.1 ≡ [] = nil_from_length f.0.1 (eqb-true _ _ g.0) in
    let is : t.0 ≡ s = sym (t.2 ∙ ap (λ (r : List ℕ). t.0 ++ r) nothing ∙ append-nil t.0) in
    subst (λ (x : A). q.spells s x) g.1 (subst (λ (x : List ℕ). q.spells x f.0.0) is t.1)

pub whole_complete : {A : Type 0} (q : Production A) → Agrees q → (s : List ℕ) (a : A) → q.spells s a → whole_at q.read s ≡ Some a
whole_complete q agrees s a h =
    let all : q.read s ≡ Some (a, []) = ap q.read (sym (append-nil s)) ∙ agrees.complete s a [] h in
    rw all refl

pub inside_agrees : {A : Type 0} (s : List ℕ) (q : Production A) → Agrees q → Agrees (inside s q)
inside_agrees {A} s q agrees = record {
  sound = λ bytes a rest e.
      let f = bind_some (whole_at q.read s) (λ x. Some (x, bytes)) (a, rest) e in
      let same = pair_is f.0 a bytes rest f.2 in
      ([], (refl, subst (λ (x : A). q.spells s x) same.0 (whole_sound q agrees s f.0 f.1)), same.1);
  complete = λ front a rest h. rw (whole_complete q agrees s a h.1, h.0) refl;
}

pub begins_agrees : {A : Type 0} (s : List ℕ) (q : p.Production A) → Agrees q → Agrees (begins s q)
begins_agrees {A} s q agrees = record {
  sound = λ bytes a rest e.
      let f = bind_some (q.read s) (λ x. Some (x.0, bytes)) (a, rest) e in
      let same = pair_is f.0.0 a bytes rest f.2 in
      let t = agrees.sound s f.0.0 f.0.1 f.1 in
      ([], (t.0, f.0.1, refl, t.2, subst (λ (x : A). q.spells t.0 x) same.0 t.1), same.1);
  complete = λ front a rest h. rw (h.3, agrees.complete h.0 a h.1 h.4, h.2) refl;
}

pub blob_agrees : Agrees blob
blob_agrees = bind_agrees u32 raw u32_agrees raw_agrees

text_agrees : (s : List ℕ) → Agrees (text s)
text_agrees s = record {
  sound = λ bytes a rest e.
      let g = guard_is (is_utf8 s) (s, bytes) (a, rest) e in
      let same : s ≡ a = ap (λ (x : List ℕ × List ℕ). x.0) g.1 in
      ([], (refl, same, IsUtf8-from_is_utf8 s g.0), ap (λ (x : List ℕ × List ℕ). x.1) g.1);
  complete = λ front a rest h. rw (h.0, is_utf8-from_IsUtf8 s h.2, h.1) refl;
}

pub name_agrees : Agrees name
unfolding name
name_agrees = bind_agrees blob text blob_agrees text_agrees
