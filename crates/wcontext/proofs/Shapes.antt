-- Lists of items, and the lists of what the items stand for.
use Rattle.std.proofs.Common.{◌≡◌, ℕ, ◌≤◌, ◌<◌, ◌↔◌, Bool, IsTrue, List, [], ◌∷◌, map, take, Option, length, refl, ap, ◌∙◌, sym, subst, ◌++◌, arith}
use Rattle.std.specs.List.{filter_map, cons_option, AllPairs}
use Rattle.std.proofs.lemmas.List.{take_all, get_or-map, length-map}
use Rattle.std.proofs.lemmas.Simd.{map-map}

-- what a filter leaves of a mapped list
pub filter_map-map : {X Y Z : Type 0} (h : Y → Option Z) (f : X → Y) (xs : List X) → filter_map h (map f xs) ≡ filter_map (λ x. h (f x)) xs
filter_map-map h f [] = refl
filter_map-map h f (x ∷ xs) = ap (cons_option (h (f x))) (filter_map-map h f xs)

-- all of a list, mapped twice
pub map-map-take : {X Y Z : Type 0} (g : Y → Z) (f : X → Y) (n : ℕ) (xs : List X) → length xs ≤ n → map (λ x. g (f x)) (take n xs) ≡ map g (map f xs)
map-map-take g f n xs all = ap (map (λ x. g (f x))) (take_all n xs all) ∙ sym (map-map g f xs)

-- a list in two parts, each of which has another form
pub joined : {A : Type 0} {l b c d r s : List A} → l ≡ b ++ r → b ≡ c → c ≡ d → r ≡ s → l ≡ d ++ s
joined whole first again rest = cc

-- A relation of each two items, and of the items' shapes.

pub AllPairs-map : {X Y : Type 0} (f : X → Y) (R : Y → Y → Type 0) (xs : List X) → AllPairs (λ x y. R (f x) (f y)) xs → AllPairs R (map f xs)
AllPairs-map f R [] all i j d before below = absurd (omega arith)
AllPairs-map f R (x ∷ xs) all i j d before below =
    let inside : j < length (x ∷ xs) = rw length-map at below in
    let first : i < length (x ∷ xs) = omega arith in
    rw (get_or-map f (x ∷ xs) i x d first, get_or-map f (x ∷ xs) j x d inside) (all i j x before inside)

pub AllPairs-unmap : {X Y : Type 0} (f : X → Y) (R : Y → Y → Type 0) (xs : List X) → AllPairs R (map f xs) → AllPairs (λ x y. R (f x) (f y)) xs
AllPairs-unmap f R xs all i j d before below =
    let inside : j < length (map f xs) = rw length-map below in
    let first : i < length xs = omega arith in
    rw (← get_or-map f xs i d (f d) first, ← get_or-map f xs j d (f d) below) (all i j (f d) before inside)

pub pairs_shapes : {X Y : Type 0} (f : X → Y) (R : Y → Y → Type 0) (xs ys : List X) (b : Bool) → ys ≡ xs → (IsTrue b ↔ AllPairs (λ x y. R (f x) (f y)) ys) → (IsTrue b ↔ AllPairs R (map f xs))
pairs_shapes f R xs ys b same test =
    (λ t. AllPairs-map f R xs (subst (AllPairs (λ x y. R (f x) (f y))) same (test.0 t)), λ all. test.1 (subst (AllPairs (λ x y. R (f x) (f y))) (sym same) (AllPairs-unmap f R xs all)))
