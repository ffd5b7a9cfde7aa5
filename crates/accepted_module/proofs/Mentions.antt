-- One of a list passes a test, in the words of the definition and in those of the code.
use Rattle.std.proofs.Common.{◌≡◌, ℕ, zero, suc, ◌+◌, Bool, true, false, ◌||◌, List, [], ◌∷◌, map, take, Some, refl, sym, ap, ◌∙◌, add-one}
use Rattle.std.specs.Prelude.{slice_get}
use Rattle.std.proofs.Math.Bool.{or-true}
use Rattle.std.specs.List.{list_any}
use Rattle.wsyntax.specs.Execution.Start.{any}

-- of what the list stands for
pub any_shown : {A B : Type 0} (shows : A → B) (p : B → Bool) (xs : List A) → list_any (λ x. p (shows x)) xs ≡ any p (map shows xs)
any_shown shows p [] = refl
any_shown shows p (x ∷ xs) = ap (λ (t : Bool). p (shows x) || t) (any_shown shows p xs)

-- where the first part is false, the whole is the second
pub second_is : (a b r : Bool) → a ≡ false → r ≡ b → r ≡ (a || b)
second_is a b r none is = is ∙ sym (ap (λ (t : Bool). t || b) none)

-- One after the other.

neither : (a b : Bool) → (a || b) ≡ false → (a ≡ false) × (b ≡ false)
neither true b h = absurd cc
neither false b h = (refl, h)

more : {A : Type 0} (p : A → Bool) (xs : List A) (i : ℕ) (x : A) → slice_get xs i ≡ Some x → any p (take i xs) ≡ false → p x ≡ false → any p (take (suc i) xs) ≡ false
more p [] i x is none here = absurd cc
more p (y ∷ ys) zero x is none here =
    let same : y ≡ x = cc in
    rw (same, here) refl
more p (y ∷ ys) (suc i) x is none here =
    let parts = neither (p y) (any p (take i ys)) none in
    rw parts.0 (more p ys i x is parts.1 here)

-- none so far, and not this one
pub none_more : {A : Type 0} (p : A → Bool) (xs : List A) (i : ℕ) (x : A) → slice_get xs i ≡ Some x → any p (take i xs) ≡ false → p x ≡ false → any p (take (i + 1) xs) ≡ false
none_more p xs i x is none here = rw add-one (more p xs i x is none here)

-- this one
pub one_found : {A : Type 0} (p : A → Bool) (xs : List A) (i : ℕ) (x : A) → slice_get xs i ≡ Some x → p x ≡ true → any p xs ≡ true
one_found p [] i x is here = absurd cc
one_found p (y ∷ ys) zero x is here =
    let same : y ≡ x = cc in
    rw (same, here) refl
one_found p (y ∷ ys) (suc i) x is here = ap (λ (t : Bool). p y || t) (one_found p ys i x is here) ∙ or-true (p y)
