-- The front of a buffer that a memory uses.
use Rattle.std.proofs.Common.{◌≡◌, ℕ, zero, suc, ◌+◌, ◌-◌, ◌<◌, ◌≤◌, List, [], ◌∷◌, ◌++◌, length, take, drop, replicate, get_or, refl, sym, ap, ◌∙◌, arith, length-append, length-drop}
use Rattle.std.proofs.Math.Seq.{take-append-add}
use Rattle.std.proofs.lemmas.List.{length-replicate, take-append-drop, length-take-le, get_or-take, get_or-drop, get_or-replicate, ext_get_or, take-take, get_or-append_right, get_or_append_left, drop-take}
use Rattle.wsyntax.specs.Execution.Allocation.{overwrite}
use Rattle.wsyntax.specs.Execution.ConfigTyped.{AreBytes}
use Rattle.memory.specs.Zeros.{AreZero}

-- overwriting keeps the length
pub length-overwrite : (at : ℕ) (xs bs : List ℕ) → at + length xs ≤ length bs → length (overwrite at xs bs) ≡ length bs
length-overwrite at xs bs within =
    omega (arith, length-append (take at bs) (xs ++ drop (at + length xs) bs), length-append xs (drop (at + length xs) bs), length-drop (at + length xs) bs, length-take-le at bs (omega arith))

-- a byte below what is overwritten stays
pub overwrite-below : (at : ℕ) (xs bs : List ℕ) (k : ℕ) → at + length xs ≤ length bs → k < at → get_or (overwrite at xs bs) k 0 ≡ get_or bs k 0
overwrite-below at xs bs k within below =
    let l : length (take at bs) ≡ at = length-take-le at bs (omega arith) in
    get_or_append_left (take at bs) (xs ++ drop (at + length xs) bs) 0 k (omega arith) ∙ get_or-take at bs k 0 below

-- and so does one above
pub overwrite-above : (at : ℕ) (xs bs : List ℕ) (k : ℕ) → at + length xs ≤ length bs → at + length xs ≤ k → get_or (overwrite at xs bs) k 0 ≡ get_or bs k 0
overwrite-above at xs bs k within above =
    let l : length (take at bs) ≡ at = length-take-le at bs (omega arith) in
    let back : (at + length xs) + ((k - at) - length xs) ≡ k = omega arith in
    get_or-append_right (take at bs) (xs ++ drop (at + length xs) bs) at k 0 l (omega arith)
    ∙ get_or-append_right xs (drop (at + length xs) bs) (length xs) (k - at) 0 refl (omega arith)
    ∙ get_or-drop (at + length xs) bs ((k - at) - length xs) 0
    ∙ ap (λ i. get_or bs i 0) back

-- a front that ends in the second part
take_past : (p q : List ℕ) (n k : ℕ) → length p + k ≡ n → take n (p ++ q) ≡ p ++ take k q
take_past p q n k e = ap (λ i. take i (p ++ q)) (sym e) ∙ take-append-add p q k

-- what lies from an address on in a front
pub drop_front : (n at : ℕ) (bs : List ℕ) → at ≤ n → drop at (take n bs) ≡ take (n - at) (drop at bs)
drop_front n at bs le = let e : n ≡ at + (n - at) = omega arith in ap (λ i. drop at (take i bs)) e ∙ drop-take at (n - at) bs

-- overwriting within the front is overwriting the front
pub take-overwrite : (at : ℕ) (xs bs : List ℕ) (n : ℕ) → at + length xs ≤ n → n ≤ length bs → take n (overwrite at xs bs) ≡ overwrite at xs (take n bs)
take-overwrite at xs bs n within fits =
    let l : length (take at bs) ≡ at = length-take-le at bs (omega arith) in
    let rest = drop (at + length xs) bs in
    let first = take_past (take at bs) (xs ++ rest) n (n - at) (omega arith) in
    let second = take_past xs rest (n - at) (n - (at + length xs)) (omega arith) in
    let front : take at (take n bs) ≡ take at bs = take-take at n bs (omega arith) in
    let back = drop_front n (at + length xs) bs within in
    first ∙ ap (λ ys. take at bs ++ ys) second ∙ ap (λ ys. take at bs ++ (xs ++ ys)) (sym back) ∙ ap (λ ys. ys ++ (xs ++ drop (at + length xs) (take n bs))) (sym front)

-- what is read within the front is read from the buffer
pub read_front : (n at width : ℕ) (bs : List ℕ) → at + width ≤ n → take width (drop at (take n bs)) ≡ take width (drop at bs)
read_front n at width bs within = ap (take width) (drop_front n at bs (omega arith)) ∙ take-take width (n - at) (drop at bs) (omega arith)

-- zeros are a list of zeros
pub take-zeros : (bs : List ℕ) (n : ℕ) → AreZero bs → n ≤ length bs → take n bs ≡ replicate n 0
take-zeros bs n zeros fits =
    let l : length (take n bs) ≡ n = length-take-le n bs fits in
    ext_get_or 0 (take n bs) (replicate n 0) (l ∙ sym (length-replicate n 0))
    (λ i below. let h : i < n = omega arith in get_or-take n bs i 0 h ∙ zeros i ∙ sym (get_or-replicate n i 0 0 h))

-- a longer front is the shorter one and what follows it
pub take_add : (n m : ℕ) (bs : List ℕ) → take (n + m) bs ≡ take n bs ++ take m (drop n bs)
take_add n m bs =
    sym (take-append-drop n (take (n + m) bs)) ∙ ap (λ ys. ys ++ drop n (take (n + m) bs)) (take-take n (n + m) bs (omega arith)) ∙ ap (λ ys. take n bs ++ ys) (drop-take n m bs)

-- a front that grows over zeros grows by zeros
pub take_grown : (n m : ℕ) (bs : List ℕ) → ((k : ℕ) → n ≤ k → get_or bs k 0 ≡ 0) → n + m ≤ length bs → take (n + m) bs ≡ take n bs ++ replicate m 0
take_grown n m bs zeros fits =
    take_add n m bs
    ∙ ap (λ ys. take n bs ++ ys) (take-zeros (drop n bs) m (λ k. get_or-drop n bs k 0 ∙ zeros (n + k) (omega arith)) (omega (arith, length-drop n bs)))

-- the front of a list of bytes is one
pub take_bytes : (n : ℕ) (bs : List ℕ) → ((k : ℕ) → get_or bs k 0 < 256) → AreBytes (take n bs)
take_bytes zero bs each = tt
take_bytes (suc n) [] each = tt
take_bytes (suc n) (b ∷ bs) each = (each 0, take_bytes n bs (λ k. each (suc k)))
