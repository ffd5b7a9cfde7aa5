-- Operands above operands: what is taken off, what stays, and their slots.
use Rattle.std.proofs.Common.{◌≡◌, ℕ, zero, suc, ◌-◌, ◌≤◌, List, [], ◌∷◌, ◌++◌, length, take, drop, Some, refl, sym, ap, ◌∙◌, arith, append_assoc, length-append}
use Rattle.std.proofs.lemmas.List.{take-map, drop-map, map-append, length-map, take-append-le, drop-append-le, take-append-drop}
use Rattle.std.proofs.Math.Seq.{drop-append_seam}
use Rattle.wsyntax.specs.declared.value.Value.{Value}
use Rattle.wsyntax.specs.Execution.Step.{Next, on_some, on_top_of, grab, put_on}
use Rattle.soundness.specs.Slots.{bits, slots}

-- Taking values off.

grab_is : (n : ℕ) (vs : List Value) → n ≤ length vs → grab n vs ≡ Some (take n vs, drop n vs)
grab_is zero vs h = refl
grab_is (suc n) [] h = absurd (omega arith)
grab_is (suc n) (v ∷ vs) h = ap (put_on v) (grab_is n vs (omega arith))

-- where there are that many, they are taken
pub top_is : (n : ℕ) (vs : List Value) (go : List Value → List Value → Next) → n ≤ length vs → on_top_of n vs go ≡ go (take n vs) (drop n vs)
top_is n vs go h = ap (λ o. on_some o (λ (p : List Value × List Value). go p.0 p.1)) (grab_is n vs h)

-- Slots.

-- what is taken and what is left are the whole
pub split_again : (n : ℕ) (vs lower : List Value) → slots (vs ++ lower) ≡ slots (take n vs ++ (drop n vs ++ lower))
split_again n vs lower = ap slots (ap (λ l. l ++ lower) (sym (take-append-drop n vs)) ∙ append_assoc (take n vs) (drop n vs) lower)

pub take_slots : (n : ℕ) (vs lower : List Value) → n ≤ length vs → take n (slots (vs ++ lower)) ≡ slots (take n vs)
take_slots n vs lower h = take-map bits n (vs ++ lower) ∙ ap slots (take-append-le n vs lower h)

pub drop_slots : (n : ℕ) (vs lower : List Value) → n ≤ length vs → drop n (slots (vs ++ lower)) ≡ slots (drop n vs ++ lower)
drop_slots n vs lower h = drop-map bits n (vs ++ lower) ∙ ap slots (drop-append-le n vs lower h)

bottom_is : (xs ys : List ℕ) (n : ℕ) → n ≡ length ys → drop (length (xs ++ ys) - n) (xs ++ ys) ≡ ys
bottom_is xs ys n e =
    let k : length (xs ++ ys) - n ≡ length xs = omega (arith, length-append xs ys) in
    ap (λ k. drop k (xs ++ ys)) k ∙ drop-append_seam xs ys

-- as many operands as there are lower ones
pub bottom_slots : (vs lower : List Value) (n : ℕ) → n ≡ length lower → drop (length (slots (vs ++ lower)) - n) (slots (vs ++ lower)) ≡ slots lower
bottom_slots vs lower n e =
    ap (λ ns. drop (length ns - n) ns) (map-append bits vs lower) ∙ bottom_is (slots vs) (slots lower) n (e ∙ sym (length-map lower bits))

-- the operands that are given to those below
pub given_slots : (n : ℕ) (vs lower under : List Value) → n ≤ length vs → take n (slots (vs ++ lower)) ++ slots under ≡ slots (take n vs ++ under)
given_slots n vs lower under h = ap (λ ns. ns ++ slots under) (take_slots n vs lower h) ∙ sym (map-append bits (take n vs) under)
