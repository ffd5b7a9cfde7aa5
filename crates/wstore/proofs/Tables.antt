-- What the loop over the functions of an element segment leaves of a table.
use Rattle.std.proofs.Common.{◌≡◌, ℕ, zero, suc, ◌+◌, ◌<◌, ◌≤◌, List, [], ◌∷◌, ◌++◌, length, take, drop, replicate, map, get_or, refl, sym, ap, ◌∙◌, arith}
use Rattle.std.proofs.Math.ListN.{set}
use Rattle.std.proofs.lemmas.List.{map-append, length-map, take_more, length-take-le, take_all, take-append-le}
use Rattle.std.proofs.lemmas.Simd.{map-map}
use Rattle.wsyntax.specs.Execution.Store.{Entry, SetTo}
use Rattle.wsyntax.specs.Execution.Allocation.{overwrite}
use Rattle.wstore.proofs.Lists.{overwrite_more, map-overwrite}

-- one more function is written, where `held` is the entry of a function
pub put_more : {A : Type 0} (held : ℕ → A) (p i : ℕ) (fs : List ℕ) (old new : List A) → new ≡ overwrite p (map held (take i fs)) old → i < length fs → p + length fs ≤ length old
    → set new (p + i) (held (get_or fs i 0)) ≡ overwrite p (map held (take (i + 1) fs)) old
put_more held p i fs old new was below fits =
    let so_far : length (map held (take i fs)) ≡ i = length-map (take i fs) held ∙ length-take-le i fs (omega arith) in
    ap (λ l. set l (p + i) (held (get_or fs i 0))) was
    ∙ overwrite_more p (p + i) (map held (take i fs)) old (held (get_or fs i 0)) (omega arith) (omega arith)
    ∙ ap (λ l. overwrite p l old) (sym (map-append held (take i fs) (get_or fs i 0 ∷ [])))
    ∙ ap (λ l. overwrite p (map held l) old) (sym (take_more fs i 0 below))

-- all functions are written
pub put_all : {A : Type 0} (entry : A → Entry) (held : ℕ → A) (p n : ℕ) (fs : List ℕ) (old new : List A) → ((xs : List ℕ) → map (λ x. entry (held x)) xs ≡ map SetTo xs)
    → new ≡ overwrite p (map held (take n fs)) old → length fs ≤ n → map entry new ≡ overwrite p (map SetTo fs) (map entry old)
put_all entry held p n fs old new meant was all =
    ap (map entry) was
    ∙ map-overwrite entry p (map held (take n fs)) old
    ∙ ap (λ l. overwrite p l (map entry old)) (map-map entry held (take n fs) ∙ meant (take n fs))
    ∙ ap (λ l. overwrite p (map SetTo l) (map entry old)) (take_all n fs all)

-- the front of a buffer that was written whole
pub whole_front : {A : Type 0} (n : ℕ) (new items : List A) → length new ≡ n → take n (new ++ drop (length new) items) ≡ new
whole_front n new items long = take-append-le n new (drop (length new) items) (omega arith) ∙ take_all n new (omega arith)

pub map-replicate : {A B : Type 0} (f : A → B) (n : ℕ) (x : A) → map f (replicate n x) ≡ replicate n (f x)
map-replicate f zero x = refl
map-replicate f (suc n) x = ap (λ l. f x ∷ l) (map-replicate f n x)
