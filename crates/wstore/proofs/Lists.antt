-- Lists that are overwritten from an offset on.
use Rattle.std.proofs.Common.{◌≡◌, ℕ, ◌+◌, ◌<◌, ◌≤◌, List, [], ◌∷◌, ◌++◌, length, take, drop, map, get_or, sym, ap, ◌∙◌, arith, length-append, length-drop}
use Rattle.std.proofs.Math.ListN.{set}
use Rattle.std.proofs.lemmas.List.{append_assoc, map-append, length-map, take-map, drop-map, drop_more, length-take-le, set_at}
use Rattle.wsyntax.specs.Execution.Allocation.{overwrite}

-- one more item is written
pub overwrite_more : {A : Type 0} (p k : ℕ) (xs ys : List A) (x : A) → k ≡ p + length xs → k < length ys → set (overwrite p xs ys) k x ≡ overwrite p (xs ++ x ∷ []) ys
overwrite_more p k xs ys x is below =
    let seam : p + length xs < length ys = omega arith in
    let front : length (take p ys) ≡ p = length-take-le p ys (omega arith) in
    let here : length (take p ys ++ xs) ≡ k = omega (arith, length-append (take p ys) xs) in
    let next : p + length (xs ++ x ∷ []) ≡ (p + length xs) + 1 = omega (arith, length-append xs (x ∷ [])) in
    let rest = drop ((p + length xs) + 1) ys in
    ap (λ r. set (take p ys ++ (xs ++ r)) k x) (drop_more ys (p + length xs) x seam)
    ∙ ap (λ l. set l k x) (sym (append_assoc (take p ys) xs (get_or ys (p + length xs) x ∷ rest)))
    ∙ set_at (take p ys ++ xs) (get_or ys (p + length xs) x) rest x k here
    ∙ append_assoc (take p ys) xs (x ∷ rest)
    ∙ ap (λ l. take p ys ++ l) (sym (append_assoc xs (x ∷ []) rest))
    ∙ ap (λ n. take p ys ++ ((xs ++ x ∷ []) ++ drop n ys)) (sym next)

-- what stands for an overwritten list
pub map-overwrite : {A B : Type 0} (f : A → B) (p : ℕ) (xs ys : List A) → map f (overwrite p xs ys) ≡ overwrite p (map f xs) (map f ys)
map-overwrite f p xs ys =
    map-append f (take p ys) (xs ++ drop (p + length xs) ys)
    ∙ ap (λ l. map f (take p ys) ++ l) (map-append f xs (drop (p + length xs) ys))
    ∙ ap (λ l. l ++ (map f xs ++ map f (drop (p + length xs) ys))) (sym (take-map f p ys))
    ∙ ap (λ l. take p (map f ys) ++ (map f xs ++ l)) (sym (drop-map f (p + length xs) ys))
    ∙ ap (λ n. take p (map f ys) ++ (map f xs ++ drop (p + n) (map f ys))) (sym (length-map xs f))

-- overwriting keeps the length
pub length-overwrite : {A : Type 0} (p : ℕ) (xs ys : List A) → p + length xs ≤ length ys → length (overwrite p xs ys) ≡ length ys
length-overwrite p xs ys within =
    omega (arith, length-append (take p ys) (xs ++ drop (p + length xs) ys), length-append xs (drop (p + length xs) ys), length-drop (p + length xs) ys, length-take-le p ys (omega arith))
