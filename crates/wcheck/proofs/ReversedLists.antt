-- Lists that are read backwards: the labels of the outer frames, and the types of operands.
use Rattle.std.proofs.Common.{◌≡◌, ℕ, zero, suc, ◌-◌, ◌≤◌, ◌<◌, get_or, slice_get, Bool, true, false, List, [], ◌∷◌, ◌++◌, map, reverse, take, length, Option, Some, refl, sym, ap, ◌∙◌, arith}
use Rattle.std.proofs.lemmas.List.{reverse-append, map-append, get_or-reverse, length-reverse, get_or-map, length-map}
use Rattle.std.proofs.lemmas.Option.{slice_get-get_or}
use Rattle.wsyntax.specs.declared.ValType.{ValType}
use Rattle.wcheck.proofs.SameTypes.{same_types-true}
use Rattle.wsyntax.specs.Validation.Algorithm.{Frame}
use Rattle.wsyntax.specs.Types.{FuncType, same_types}
use Rattle.wcheck.specs.declared.frames.OuterFrame.{OuterFrame}
use Rattle.wcheck.specs.Views.{cut, label_of}

pub map-reverse : {A B : Type 0} (f : A → B) (xs : List A) → map f (reverse xs) ≡ reverse (map f xs)
map-reverse f [] = refl
map-reverse f (x ∷ xs) =
    ap (map f) (reverse-append (x ∷ []) xs) ∙ map-append f (reverse xs) (x ∷ []) ∙ ap (λ z. z ++ f x ∷ []) (map-reverse f xs) ∙ sym (reverse-append (f x ∷ []) (map f xs))

-- the item l of a list that begins with b and then goes backwards
pub behind_or : {A B : Type 0} (f : A → B) (b : B) (xs : List A) (l : ℕ) (d : A) → (l ≡ 0 → ⊥) → l ≤ length xs → slice_get (b ∷ reverse (map f xs)) l ≡ Some (f (get_or xs (length xs - l) d))
behind_or f b xs zero d nz le = absurd (nz refl)
behind_or f b xs (suc m) d nz le =
    let lt : m < length (map f xs) = omega (arith, length-map xs f) in
    let lt' : m < length (reverse (map f xs)) = omega (arith, length-reverse (map f xs)) in
    let k : length (map f xs) - 1 - m ≡ length xs - suc m = omega (arith, length-map xs f) in
    let lt'' : length xs - suc m < length xs = omega arith in
    slice_get-get_or (reverse (map f xs)) m (f d) lt'
    ∙ ap Some (get_or-reverse (map f xs) m (f d) lt ∙ ap (λ i. get_or (map f xs) i (f d)) k ∙ get_or-map f xs (length xs - suc m) d (f d) lt'')

-- stacks of different lengths
pub differ : (a b : List ValType) → (length a ≡ length b → ⊥) → (v : Bool) → same_types (reverse a) (reverse b) ≡ v → false ≡ same_types (reverse a) (reverse b)
differ a b ne true e =
    absurd (ne (sym (length-reverse a) ∙ ap length (same_types-true (reverse a) (reverse b) e) ∙ length-reverse b))
differ a b ne false e = sym e

-- the labels of the frames outside
pub labels_same : (types : List FuncType) (xs : List OuterFrame) (below : List (Option ValType)) → map (λ (f : Frame). f.label) (cut types xs below) ≡ map (λ y. label_of types y.frame) xs
labels_same types [] below = refl
labels_same types (x ∷ xs) below = ap (λ z. label_of types x.frame ∷ z) (labels_same types xs (take x.height below))

pub labels_outside : (types : List FuncType) (xs : List OuterFrame) (below : List (Option ValType)) → map (λ (f : Frame). f.label) (cut types (reverse xs) below) ≡ reverse (map (λ y. label_of types y.frame) xs)
labels_outside types xs below = labels_same types (reverse xs) below ∙ map-reverse (λ (y : OuterFrame). label_of types y.frame) xs

pub reversed_last : {A : Type 0} (xs : List A) (x : A) → reverse (xs ++ x ∷ []) ≡ x ∷ reverse xs
reversed_last xs x = reverse-append xs (x ∷ [])

pub reverse_length : {A : Type 0} (xs ys : List A) (n : ℕ) → n ≡ length xs → reverse xs ≡ ys → n ≡ length ys
reverse_length xs ys n e h = e ∙ sym (length-reverse xs) ∙ ap length h
