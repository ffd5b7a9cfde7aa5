-- What is found in a list is in it, and what stands before it.
use Rattle.std.proofs.Common.{◌≡◌, ℕ, ◌<◌, ◌≤◌, Bool, true, false, List, [], length, map, take, get_or, arith, sym}
use Rattle.std.specs.Prelude.{Contains}
use Rattle.std.specs.List.{before_first, position_or_len}
use Rattle.std.proofs.lemmas.List.{length-map, get_or-map, take-map}
use Rattle.std.proofs.lemmas.List.Sums.{position_or_len_is}

-- the text of an element is among the texts
pub text_contained : {X : Type 0} (f : X → List ℕ) (xs : List X) (k : ℕ) (d : X) → k < length xs → Contains (map f xs) (f (get_or xs k d))
text_contained f xs k d lt = (k, omega (arith, lt, length-map xs f), get_or-map f xs k d (f (get_or xs k d)) lt)

-- where no text before i passes, and the one at i does or there is none, the first i are those before the first that passes
pub texts_before_first : {X : Type 0} (f : X → List ℕ) (p : List ℕ → Bool) (xs : List X) (i : ℕ) → i ≤ length xs → ((k : ℕ) → k < i → p (get_or (map f xs) k []) ≡ false) → (i < length xs → p (get_or (map f xs) i []) ≡ true)
    → map f (take i xs) ≡ before_first p (map f xs)
texts_before_first f p xs i within fail passes =
    let first : position_or_len p (map f xs) ≡ i = position_or_len_is p (map f xs) i [] (omega (arith, within, length-map xs f)) fail (λ lt. passes (omega (arith, lt, length-map xs f))) in
    rw first (sym (take-map f i xs))
