-- The last of a list, and what lies before it.
use Rattle.std.proofs.Common.{◌≡◌, ℕ, zero, suc, ◌-◌, ◌<◌, List, [], ◌∷◌, ◌++◌, length, take, get_or, slice_get, Some, None, refl, sym, ap, ◌∙◌, arith, length-append}
use Rattle.std.specs.Prelude.{set}
use Rattle.std.proofs.lemmas.Option.{slice_get-get_or, get_or_from_slice_get}
use Rattle.std.proofs.Math.Seq.{take-append_seam}

pub prefix : {A : Type 0} (l a b : List A) → l ≡ a ++ b → a ≡ take (length l - length b) l
prefix l a b e =
    let k : length l - length b ≡ length a = omega (arith, ap length e, length-append a b) in
    sym (ap (λ n. take n l) k ∙ ap (take (length a)) e ∙ take-append_seam a b)

pub last_at : {A : Type 0} (xs : List A) (n : ℕ) (d : A) → suc n ≡ length xs → xs ≡ take n xs ++ get_or xs n d ∷ []
last_at [] n d e = absurd (omega (arith, e))
last_at (x ∷ []) zero d e = refl
last_at (x ∷ []) (suc n) d e = absurd (omega (arith, e))
last_at (x ∷ y ∷ ys) zero d e = absurd (omega (arith, e))
last_at (x ∷ y ∷ ys) (suc n) d e = ap (λ z. x ∷ z) (last_at (y ∷ ys) n d (omega (arith, e)))

pub last_split : {A : Type 0} (xs : List A) (d : A) → 0 < length xs → xs ≡ take (length xs - 1) xs ++ get_or xs (length xs - 1) d ∷ []
last_split xs d lt = last_at xs (length xs - 1) d (omega (arith, lt))

pub no_last : {A : Type 0} (xs : List A) → slice_get xs (length xs - 1) ≡ None → xs ≡ []
no_last [] e = refl
no_last (x ∷ xs) e = absurd (let h : None ≡ Some (get_or (x ∷ xs) (length (x ∷ xs) - 1) x) = sym e ∙ slice_get-get_or (x ∷ xs) (length (x ∷ xs) - 1) x (omega arith) in cc)

pub is_there : {A : Type 0} (xs : List A) (x : A) → slice_get xs (length xs - 1) ≡ Some x → xs ≡ take (length xs - 1) xs ++ x ∷ []
is_there [] x e = absurd cc
is_there (y ∷ ys) x e =
    last_split (y ∷ ys) x (omega arith) ∙ ap (λ z. take (length (y ∷ ys) - 1) (y ∷ ys) ++ z ∷ []) (get_or_from_slice_get (y ∷ ys) (length (y ∷ ys) - 1) x x e)

write_at : {A : Type 0} (xs : List A) (n : ℕ) (y : A) → suc n ≡ length xs → set xs n y ≡ take n xs ++ y ∷ []
write_at [] n y e = absurd (omega (arith, e))
write_at (x ∷ []) zero y e = refl
write_at (x ∷ []) (suc n) y e = absurd (omega (arith, e))
write_at (x ∷ z ∷ zs) zero y e = absurd (omega (arith, e))
write_at (x ∷ z ∷ zs) (suc n) y e = ap (λ l. x ∷ l) (write_at (z ∷ zs) n y (omega (arith, e)))

-- a write over the last
pub set_last : {A : Type 0} (xs : List A) (i : ℕ) (y : A) → 0 < length xs → i ≡ length xs - 1 → set xs i y ≡ take (length xs - 1) xs ++ y ∷ []
set_last xs i y lt e = ap (λ k. set xs k y) e ∙ write_at xs (length xs - 1) y (omega (arith, lt))

pub split_at_last : {A : Type 0} (xs : List A) (count n : ℕ) (x : A) → count ≡ length xs → n ≡ count - 1 → 0 < length xs → x ≡ get_or xs n x → xs ≡ take n xs ++ x ∷ []
split_at_last xs count n x c e lt h =
    last_at xs n x (omega (arith, c, e, lt)) ∙ ap (λ z. take n xs ++ z ∷ []) (sym h)

pub last_two : {A : Type 0} (xs : List A) (n : ℕ) (d e : A) → suc (suc n) ≡ length xs → xs ≡ take n xs ++ get_or xs n d ∷ get_or xs (suc n) e ∷ []
last_two [] n d e h = absurd (omega (arith, h))
last_two (x ∷ []) n d e h = absurd (omega (arith, h))
last_two (x ∷ y ∷ []) zero d e h = refl
last_two (x ∷ y ∷ z ∷ zs) zero d e h = absurd (omega (arith, h))
last_two (x ∷ xs) (suc n) d e h = ap (λ z. x ∷ z) (last_two xs n d e (omega (arith, h)))
