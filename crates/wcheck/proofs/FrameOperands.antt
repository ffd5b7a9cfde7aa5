-- One list of operands, of which the innermost frame has those above a height: what a change of the list is to that frame.
-- It goes by the changes: operands are put on top, taken or replaced there, and cut off; each is computed with `take` and `drop`.
-- The methods of `OperandStack` in src/operand_stack.rt cite it.
use Rattle.std.proofs.Common.{◌≡◌, ◌≤◌, ◌<◌, ◌-◌, ◌+◌, ℕ, Bool, false, List, [], ◌∷◌, ◌++◌, map, drop, take, reverse, length, Option, Some, sym, ap, ◌∙◌, arith, length-append, length-drop}
use Rattle.std.specs.Prelude.{min}
use Rattle.std.proofs.lemmas.List.{reverse-append, reverse-reverse, length-reverse, length-map, length-take, take-append-drop, take-append-le, append-nil, drop-append-le, take-take, take_min}
use Rattle.std.proofs.Math.Seq.{drop-append_seam, take-append_seam}
use Rattle.std.proofs.Math.ListN.{drop_of_length-le}
use Rattle.std.proofs.Math.Nat.{lt_of_not-le}
use mathlib.Core.Logic.{dite}
use native.Mathlib.Decide.{dec_le}
use Rattle.wsyntax.specs.declared.ValType.{ValType}
use Rattle.wsyntax.specs.Types.{FuncType}
use Rattle.wsyntax.specs.Validation.Algorithm as alg
use Rattle.wsyntax.specs.Validation.Algorithm.{Operands, Takes, Drops, when, on, apply, pop_one, push_list}
use Rattle.wcheck.specs.Heights.{Stacked, above_of, stacked, all_of, without, over}
use Rattle.wcheck.specs.declared.entry.StackEntry.{StackEntry}
use Rattle.wcheck.specs.Runs.{types_in, IsCounted, last_types, types_before}
use Rattle.wcheck.proofs.ReversedLists.{map-reverse}
use Rattle.wcheck.proofs.Stretched.{none, least}
use Rattle.wcheck.proofs.TakenBack.{same_as_itself, taken_whole, taken_prefix}

-- ---- lists

-- with more on top
below_same : {A : Type 0} (xs ys more : List A) (b : ℕ) → xs ≡ ys ++ more → b ≤ length ys → take b xs ≡ take b ys
below_same xs ys more b e le = ap (take b) e ∙ take-append-le b ys more le

above_more : {A : Type 0} (xs ys more : List A) (b : ℕ) → xs ≡ ys ++ more → b ≤ length ys → reverse (drop b xs) ≡ reverse more ++ reverse (drop b ys)
above_more xs ys more b e le =
    ap (λ z. reverse (drop b z)) e ∙ ap reverse (drop-append-le b ys more le) ∙ reverse-append (drop b ys) more

-- the first n alone
above_cut : {A : Type 0} (xs : List A) (b n : ℕ) → b ≤ n → n ≤ length xs → reverse (drop b (take n xs)) ≡ drop (length xs - n) (reverse (drop b xs))
above_cut xs b n le lx =
    let fits : b ≤ length (take n xs) = omega (arith, le, lx, length-take n xs) in
    let all = above_more xs (take n xs) (drop n xs) b (sym (take-append-drop n xs)) fits in
    let size : length xs - n ≡ length (reverse (drop n xs)) = omega (arith, lx, length-drop n xs, length-reverse (drop n xs)) in
    sym
    (ap (λ k. drop k (reverse (drop b xs))) size
    ∙ ap (drop (length (reverse (drop n xs)))) all
    ∙ drop-append_seam (reverse (drop n xs)) (reverse (drop b (take n xs))))

-- the operands of a frame, where these are all, are that many
pub sizes : {A : Type 0} (xs : List A) (b : ℕ) → b ≤ length xs → length (take b xs) + length (reverse (drop b xs)) ≡ length xs
sizes xs b le = omega (arith, le, length-take b xs, length-reverse (drop b xs), length-drop b xs)

-- all operands, from both parts
pub all_items : (xs : List (Option ValType)) (types : List FuncType) (b : ℕ) (d : Bool) (s : Stacked) → stacked xs types b d ≡ s → all_of s ≡ xs
all_items xs types b d s w =
    ap all_of (sym w) ∙ ap (λ z. take b xs ++ z) (reverse-reverse (drop b xs)) ∙ take-append-drop b xs

pub frame_size : (xs : List (Option ValType)) (types : List FuncType) (b : ℕ) (d : Bool) (s : Stacked) → stacked xs types b d ≡ s → length s.above.known ≡ length xs - b
frame_size xs types b d s w =
    ap (λ z. length z.above.known) (sym w) ∙ length-reverse (drop b xs) ∙ length-drop b xs

pub base_size : (xs : List (Option ValType)) (types : List FuncType) (b : ℕ) (d : Bool) (s : Stacked) → stacked xs types b d ≡ s → b ≤ length xs → length s.below ≡ b
base_size xs types b d s w le =
    ap (λ z. length z.below) (sym w) ∙ (let size : length (take b xs) ≡ b = omega (arith, le, length-take b xs) in size)

-- no entries
pub empty_stack : (xs : List StackEntry) (rs : List (List ValType)) (types : List FuncType) → xs ≡ [] → stacked (types_in xs rs) types 0 false ≡ record { below = []; above = record { known = []; is_dead = false }; types = types }
empty_stack xs rs types e = ap (λ z. stacked z types 0 false) (ap (λ z. types_in z rs) e ∙ none rs)

pub empty_counted : (xs : List StackEntry) (rs : List (List ValType)) → xs ≡ [] → IsCounted xs rs 0
empty_counted xs rs e = record {
  count = omega (arith, ap length e, ap length (ap (λ z. types_in z rs) e ∙ none rs));
  small = omega arith;
}

drop_min : {A : Type 0} (xs : List A) (n : ℕ) → drop (min (length xs) n) xs ≡ drop n xs
drop_min xs n =
    dite (dec_le n (length xs))
    (λ yes. let same : min (length xs) n ≡ n = omega (arith, yes) in ap (λ k. drop k xs) same)
    (λ no. drop_of_length-le xs (omega (arith, lt_of_not-le no)) ∙ sym (drop_of_length-le xs (omega (arith, lt_of_not-le no))))

-- where no operand is left in the frame, those below are all
pub closed : (xs : List (Option ValType)) (types : List FuncType) (b : ℕ) (d : Bool) (s : Stacked) → stacked xs types b d ≡ s → b ≤ length xs → (below : List (Option ValType)) → s.below ≡ below → s.above.known ≡ [] → (m n : ℕ) → m ≡ min b n → reverse (drop m xs) ≡ reverse (drop n below)
closed xs types b d s w le below e k m n q =
    let all : xs ≡ below = sym (all_items xs types b d s w) ∙ ap (λ z. z ++ reverse s.above.known) e ∙ ap (λ z. below ++ reverse z) k ∙ append-nil below in
    let size : b ≡ length xs = sym (base_size xs types b d s w le) ∙ ap length (e ∙ sym all) in
    ap (λ j. reverse (drop j xs)) (q ∙ ap (λ j. min j n) size) ∙ ap reverse (drop_min xs n) ∙ ap (λ z. reverse (drop n z)) all

-- the entries without the last k reach above b, if the entries do
pub reaches : (xs : List StackEntry) (rs : List (List ValType)) (n k b : ℕ) → n ≡ length xs → b ≤ n - k → b ≤ length (types_in (take (n - k) xs) rs)
reaches xs rs n k b c le = omega (arith, le, c, least (take (n - k) xs) rs, length-take (n - k) xs)

-- ---- what the list xs becomes by a change of the topmost

module _ (xs new : List (Option ValType)) (types : List FuncType) (b : ℕ) (d : Bool) (s : Stacked) (w : stacked xs types b d ≡ s) where
  -- ts has been replaced by us
  module _ (rest : List (Option ValType)) (ts us : List ValType) (ex : xs ≡ rest ++ map Some ts) (en : new ≡ rest ++ map Some us) (le : b ≤ length rest) where
    pub swapped_below : take b new ≡ s.below
    swapped_below =
        below_same new rest (map Some us) b en le ∙ sym (below_same xs rest (map Some ts) b ex le) ∙ ap (λ z. z.below) w

    pub swapped_enough : b ≤ length new
    swapped_enough = omega (arith, le, ap length en, length-append rest (map Some us))

    pub swapped : apply (Takes (reverse ts) (reverse us)) s.above ≡ Some (above_of new b d)
    swapped =
        ap (λ z. apply (Takes (reverse ts) (reverse us)) z.above) (sym w)
        ∙ ap (λ z. apply (Takes (reverse ts) (reverse us)) record { known = z; is_dead = d }) (above_more xs rest (map Some ts) b ex le ∙ ap (λ z. z ++ reverse (drop b rest)) (sym (map-reverse Some ts)))
        ∙ ap (λ o. on o (λ p. Some (push_list (reverse us) p))) (taken_whole (reverse ts) (reverse (drop b rest)) d)
        ∙ ap (λ z. Some record { known = z; is_dead = d }) (ap (λ z. z ++ reverse (drop b rest)) (map-reverse Some us) ∙ sym (above_more new rest (map Some us) b en le))

  -- x is off
  module _ (x : Option ValType) (e : xs ≡ new ++ x ∷ []) (lt : b < length xs) where
    pub one_enough : b ≤ length new
    one_enough = omega (arith, lt, ap length e, length-append new (x ∷ []))

    top : s.above ≡ record { known = x ∷ reverse (drop b new); is_dead = d }
    top = ap (λ z. z.above) (sym w) ∙ ap (λ z. record { known = z; is_dead = d }) (above_more xs new (x ∷ []) b e one_enough)

    pub one_below : take b new ≡ s.below
    one_below = sym (below_same xs new (x ∷ []) b e one_enough) ∙ ap (λ z. z.below) w

    pub dropped : apply Drops s.above ≡ Some (above_of new b d)
    dropped = ap (apply Drops) top

    pub one_taken : (t : ValType) → x ≡ Some t → pop_one t s.above ≡ Some (above_of new b d)
    one_taken t k =
        ap (pop_one t) (top ∙ ap (λ z. record { known = z ∷ reverse (drop b new); is_dead = d }) k) ∙ ap (λ c. when c (Some (above_of new b d))) (same_as_itself t)

  -- these are on top of what was
  module _ (more : List (Option ValType)) (e : new ≡ xs ++ more) (le : b ≤ length xs) where
    pub more_below : take b new ≡ s.below
    more_below = below_same new xs more b e le ∙ ap (λ z. z.below) w

    pub more_enough : b ≤ length new
    more_enough = omega (arith, le, ap length e, length-append xs more)

    pub more_above : above_of new b d ≡ record { known = reverse more ++ s.above.known; is_dead = s.above.is_dead }
    more_above =
        ap (λ z. record { known = z; is_dead = d }) (above_more new xs more b e le) ∙ ap (λ z. record { known = reverse more ++ z.above.known; is_dead = z.above.is_dead }) w

  -- the first n are left
  module _ (n : ℕ) (e : new ≡ take n xs) (le : b ≤ n) (lx : b ≤ length xs) where
    pub cut_below : take b new ≡ s.below
    cut_below = ap (take b) e ∙ take-take b n xs le ∙ ap (λ z. z.below) w

    pub cut_enough : b ≤ length new
    cut_enough = omega (arith, le, lx, ap length e, length-take n xs)

    -- that many are off
    pub cut_by : (k : ℕ) → k ≡ length xs - n → above_of new b d ≡ without k s.above
    cut_by k q =
        ap (λ z. record { known = z; is_dead = d }) (ap (λ z. reverse (drop b z)) e ∙ known) ∙ ap (λ z. record { known = drop k z.above.known; is_dead = z.above.is_dead }) w
      where
        -- n itself, or all where it is more
        known : reverse (drop b (take n xs)) ≡ drop k (reverse (drop b xs))
        known =
            ap (λ z. reverse (drop b z)) (sym (take_min n xs))
            ∙ above_cut xs b (min n (length xs)) (omega (arith, le, lx)) (omega arith)
            ∙ ap (λ j. drop j (reverse (drop b xs))) (let j : length xs - min n (length xs) ≡ k = omega (arith, q) in j)

    pub cut_to : above_of new b d ≡ without (over n s) s.above
    cut_to = cut_by (over n s) (ap (λ z. length z.below + length z.above.known - n) (sym w) ∙ ap (λ k. k - n) (sizes xs b lx))

  -- the topmost k of the frame are off
  module _ (k : ℕ) (e : new ≡ take (length xs - k) xs) (le : k ≤ length s.above.known) (lx : b ≤ length xs) where
    deep : b + k ≤ length xs
    deep = omega (arith, le, lx, frame_size xs types b d s w)

    pub short_below : take b new ≡ s.below
    short_below = cut_below (length xs - k) e (omega (arith, deep)) lx

    pub short_enough : b ≤ length new
    short_enough = cut_enough (length xs - k) e (omega (arith, deep)) lx

    pub short_above : above_of new b d ≡ without k s.above
    short_above = cut_by (length xs - k) e (omega (arith, deep)) lx k (omega (arith, deep))

-- ---- the types ts on top of all operands, of which the frame has as many

on_top : (s : Stacked) (rest : List (Option ValType)) (ts : List ValType) → all_of s ≡ rest ++ map Some ts → length ts ≤ length s.above.known → take (length ts) s.above.known ≡ map Some (reverse ts)
on_top s rest ts e le =
    let turned : s.above.known ++ reverse s.below ≡ map Some (reverse ts) ++ reverse rest =
    ap (λ z. z ++ reverse s.below) (sym (reverse-reverse s.above.known))
    ∙ sym (reverse-append s.below (reverse s.above.known))
    ∙ ap reverse e
    ∙ reverse-append rest (map Some ts)
    ∙ ap (λ z. z ++ reverse rest) (sym (map-reverse Some ts)) in
    let size : length (map Some (reverse ts)) ≡ length ts = length-map (reverse ts) (λ (t : ValType). Some t) ∙ length-reverse ts in
    sym (take-append-le (length ts) s.above.known (reverse s.below) le)
    ∙ ap (take (length ts)) turned
    ∙ ap (λ n. take n (map Some (reverse ts) ++ reverse rest)) (sym size)
    ∙ take-append_seam (map Some (reverse ts)) (reverse rest)

top_types : (s : Stacked) (rest : List (Option ValType)) (ts : List ValType) → all_of s ≡ rest ++ map Some ts → length ts ≤ length s.above.known → s.above.known ≡ map Some (reverse ts) ++ drop (length ts) s.above.known
top_types s rest ts e le =
    sym (take-append-drop (length ts) s.above.known) ∙ ap (λ z. z ++ drop (length ts) s.above.known) (on_top s rest ts e le)

-- the last of us are taken
pub types_taken : (s : Stacked) (last : List (Option ValType)) (us : List ValType) (n k : ℕ) (o : Operands) → all_of s ≡ last ++ map Some (last_types n us) → n ≤ length us → n ≤ length s.above.known → k ≡ n → o ≡ without k s.above → alg.pop_all (reverse us) s.above ≡ alg.pop_all (reverse (types_before n us)) o
types_taken s last us n k o e lu lk ek eo =
    let size : length (last_types n us) ≡ n = omega (arith, lu, length-drop (length us - n) us) in
    let fits : length (last_types n us) ≤ length s.above.known = omega (arith, size, lk) in
    let on_top = top_types s last (last_types n us) e fits in
    ap (λ z. alg.pop_all (reverse z) s.above) (sym (take-append-drop (length us - n) us))
    ∙ ap (λ z. alg.pop_all z s.above) (reverse-append (types_before n us) (last_types n us))
    ∙ ap (λ z. alg.pop_all (reverse (last_types n us) ++ reverse (types_before n us)) record { known = z; is_dead = s.above.is_dead }) on_top
    ∙ taken_prefix (reverse (last_types n us)) (reverse (types_before n us)) (drop (length (last_types n us)) s.above.known) s.above.is_dead
    ∙ ap (λ z. alg.pop_all (reverse (types_before n us)) record { known = drop z s.above.known; is_dead = s.above.is_dead }) (size ∙ sym ek)
    ∙ ap (alg.pop_all (reverse (types_before n us))) (sym eo)

-- all of ts are taken
pub all_taken : (s : Stacked) (rest : List (Option ValType)) (ts : List ValType) (k : ℕ) (o : Operands) → all_of s ≡ rest ++ map Some ts → length ts ≤ length s.above.known → k ≡ length ts → o ≡ without k s.above → alg.pop_all (reverse ts) s.above ≡ Some o
all_taken s rest ts k o e le ek eo =
    ap (λ z. alg.pop_all (reverse ts) record { known = z; is_dead = s.above.is_dead }) (top_types s rest ts e le)
    ∙ taken_whole (reverse ts) (drop (length ts) s.above.known) s.above.is_dead
    ∙ ap (λ z. Some record { known = drop z s.above.known; is_dead = s.above.is_dead }) (sym ek)
    ∙ ap Some (sym eo)
