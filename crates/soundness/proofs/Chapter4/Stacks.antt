-- Stacks of values and of their types.
use Rattle.std.proofs.Common.{◌≡◌, ℕ, zero, suc, List, [], ◌∷◌, ◌++◌, length, map, reverse, Option, Some, refl, sym, ap, ◌∙◌, subst}
use Rattle.std.specs.Prelude.{slice_get, slice_set}
use Rattle.std.proofs.lemmas.List.{map-append, reverse-append}
use Rattle.wsyntax.specs.declared.types.ValType.{ValType}
use Rattle.wsyntax.specs.declared.value.Value.{Value}
use Rattle.wsyntax.specs.declared.value.Value.TheVariants.{I32 as V32, I64 as V64}
use Rattle.wsyntax.specs.Execution.Values.{type_of, types, IsWord, AreWords, number}
use Rattle.wsyntax.specs.Execution.Step.{Next, on_some, on_top, on_number, on_top_of, grab, put_on}
use Rattle.wsyntax.specs.Execution.ConfigTyped.{ValuesTyped}

pub map-reverse : {A B : Type 0} (f : A → B) (xs : List A) → map f (reverse xs) ≡ reverse (map f xs)
map-reverse f [] = refl
map-reverse f (x ∷ xs) =
    ap (map f) (reverse-append (x ∷ []) xs) ∙ map-append f (reverse xs) (x ∷ []) ∙ ap (λ z. z ++ f x ∷ []) (map-reverse f xs) ∙ sym (reverse-append (f x ∷ []) (map f xs))

-- the same values have the same types
pub values_at : {vs : List Value} {a b : List ValType} → ValuesTyped vs a → a ≡ b → ValuesTyped vs b
values_at h e = record { typed = h.typed ∙ e; words = h.words }

pub no_values : ValuesTyped [] []
no_values = record { typed = refl; words = tt }

-- one value more
pub push : {vs : List Value} {t : ValType} {a : List ValType} (v : Value) → type_of v ≡ t → IsWord v → ValuesTyped vs a → ValuesTyped (v ∷ vs) (t ∷ a)
push v e w h = record { typed = cc (e, h.typed); words = (w, h.words) }

pub words_join : (vs us : List Value) → AreWords vs → AreWords us → AreWords (vs ++ us)
words_join [] us h k = k
words_join (v ∷ vs) us h k = (h.0, words_join vs us h.1 k)

pub values_join : {a b : List ValType} (vs us : List Value) → ValuesTyped vs a → ValuesTyped us b → ValuesTyped (vs ++ us) (a ++ b)
values_join {a} {b} vs us h k = record {
  typed = map-append type_of vs us ∙ ap (λ ts. ts ++ types us) h.typed ∙ ap (λ ts. a ++ ts) k.typed;
  words = words_join vs us h.words k.words;
}

pub words_reverse : (vs : List Value) → AreWords vs → AreWords (reverse vs)
words_reverse [] h = tt
words_reverse (v ∷ vs) h = subst AreWords (sym (reverse-append (v ∷ []) vs)) (words_join (reverse vs) (v ∷ []) (words_reverse vs h.1) (h.0, tt))

pub values_reverse : {a : List ValType} (vs : List Value) → ValuesTyped vs a → ValuesTyped (reverse vs) (reverse a)
values_reverse vs h = record { typed = map-reverse type_of vs ∙ ap reverse h.typed; words = words_reverse vs h.words }

-- the topmost value, where the topmost type is known
pub on_top_ok : (P : Next → Type 0) {t : ValType} {c : List ValType} (vs : List Value) (go : Value → List Value → Next) → ValuesTyped vs (t ∷ c) → ((v : Value) (below : List Value) → type_of v ≡ t → IsWord v → ValuesTyped below c → P (go v below)) → P (on_top vs go)
on_top_ok P [] go h f = let e = h.typed in absurd cc
on_top_ok P (v ∷ vs) go h f =
    let e = h.typed in
    f v vs (cc) h.words.0 record { typed = cc; words = h.words.1 }

pub number_ok : {t : ValType} (v : Value) → type_of v ≡ t → (n : ℕ) × (number t v ≡ Some n)
number_ok (V32 n) e = (n, ap (λ t. number t (V32 n)) (sym e))
number_ok (V64 n) e = (n, ap (λ t. number t (V64 n)) (sym e))

pub on_some_ok : {A : Type 0} (P : Next → Type 0) {o : Option A} {x : A} (go : A → Next) → o ≡ Some x → P (go x) → P (on_some o go)
on_some_ok P go e h = subst (λ o. P (on_some o go)) (sym e) h

pub on_number_ok : (P : Next → Type 0) {t : ValType} {c : List ValType} (vs : List Value) (go : ℕ → List Value → Next) → ValuesTyped vs (t ∷ c) → ((n : ℕ) (below : List Value) → ValuesTyped below c → P (go n below)) → P (on_number t vs go)
on_number_ok P {t} vs go e f =
    on_top_ok P vs (λ v below. on_some (number t v) (λ n. go n below)) e (λ v below tv wv tb.
    let p = number_ok v tv in on_some_ok P (λ n. go n below) p.1 (f p.0 below tb))

-- what `grab` finds
record Grabs (ts c : List ValType) (o : Option (List Value × List Value)) : Type 0 where
  taken : List Value
  below : List Value
  is : o ≡ Some (taken, below)
  taken_typed : ValuesTyped taken ts
  below_typed : ValuesTyped below c

grab_ok : (ts c : List ValType) (vs : List Value) → ValuesTyped vs (ts ++ c) → Grabs ts c (grab (length ts) vs)
grab_ok [] c vs e = record { taken = []; below = vs; is = refl; taken_typed = no_values; below_typed = e }
grab_ok (t ∷ ts) c [] h = let e = h.typed in absurd cc
grab_ok (t ∷ ts) c (v ∷ vs) h =
    let e = h.typed in
    let tail : types vs ≡ ts ++ c = cc in
    let head : type_of v ≡ t = cc in
    let g = grab_ok ts c vs record { typed = tail; words = h.words.1 } in
    record { taken = v ∷ g.taken; below = g.below; is = ap (put_on v) g.is; taken_typed = push v head h.words.0 g.taken_typed; below_typed = g.below_typed }

-- the n topmost values, where the n topmost types are known
pub on_top_of_ok : (P : Next → Type 0) (p c : List ValType) (n : ℕ) (vs : List Value) (go : List Value → List Value → Next) → length p ≡ n → ValuesTyped vs (p ++ c) → ((taken below : List Value) → ValuesTyped taken p → ValuesTyped below c → P (go taken below)) → P (on_top_of n vs go)
on_top_of_ok P p c n vs go len e f =
    let g = grab_ok p c vs e in
    subst (λ n. P (on_top_of n vs go)) len (on_some_ok P (λ q. go q.0 q.1) g.is (f g.taken g.below g.taken_typed g.below_typed))

-- a local or a global of a known type
pub record Held (t : ValType) (o : Option Value) : Type 0 where
  pub value : Value
  pub is : o ≡ Some value
  pub of_type : type_of value ≡ t
  pub word : IsWord value

held_at : {t : ValType} (vs : List Value) (x : ℕ) → AreWords vs → slice_get (types vs) x ≡ Some t → Held t (slice_get vs x)
held_at [] x w e = absurd cc
held_at (v ∷ vs) zero w e = record { value = v; is = refl; of_type = cc; word = w.0 }
held_at (v ∷ vs) (suc x) w e = held_at vs x w.1 e

pub held : {t : ValType} {a : List ValType} (vs : List Value) (x : ℕ) → ValuesTyped vs a → slice_get a x ≡ Some t → Held t (slice_get vs x)
held vs x h e = held_at vs x h.words (ap (λ ts. slice_get ts x) h.typed ∙ e)

set_types : (vs : List Value) (x : ℕ) (v was : Value) → slice_get vs x ≡ Some was → type_of v ≡ type_of was → types (slice_set vs x v) ≡ types vs
set_types [] x v was e f = absurd cc
set_types (u ∷ vs) zero v was e f = let h : u ≡ was = cc in ap (λ t. t ∷ types vs) (f ∙ sym (ap type_of h))
set_types (u ∷ vs) (suc x) v was e f = ap (λ ts. type_of u ∷ ts) (set_types vs x v was e f)

set_words : (vs : List Value) (x : ℕ) (v was : Value) → slice_get vs x ≡ Some was → IsWord v → AreWords vs → AreWords (slice_set vs x v)
set_words [] x v was e w h = absurd cc
set_words (u ∷ vs) zero v was e w h = (w, h.1)
set_words (u ∷ vs) (suc x) v was e w h = (h.0, set_words vs x v was e w h.1)

pub values_set : {a : List ValType} (vs : List Value) (x : ℕ) (v was : Value) → slice_get vs x ≡ Some was → type_of v ≡ type_of was → IsWord v → ValuesTyped vs a → ValuesTyped (slice_set vs x v) a
values_set vs x v was e f w h = record { typed = set_types vs x v was e f ∙ h.typed; words = set_words vs x v was e w h.words }
