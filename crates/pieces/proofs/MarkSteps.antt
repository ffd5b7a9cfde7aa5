-- Each step of a share keeps the rule of the mark.
use Rattle.std.proofs.Common.{◌≡◌, ◌≢◌, ℕ, ◌<◌, min, List, [], ◌∷◌, ◌++◌, set, sym, refl, ap, ◌∙◌, subst, arith, ⊎_elim, ◌⊎◌, inl, inr, append_assoc, append-nil}
use Rattle.std.specs.Prelude.{Option, Some, None, slice_index}
use Rattle.std.proofs.lemmas.Bool.Decides.{nat_tests}
use mathlib.Core.List.{IsPrefix}
use mathlib.Core.Option.{some}
use mathlib.Core.Logic.{dite}
use native.Mathlib.Decide.{dec_le, ℕ_discrete}
use lib.ListN.{get_elem?}
use Rattle.atomic_table.specs.Table.{State, Me, keeps, Allows, Splits, Joins}
use Rattle.atomic_table.proofs.Lists.{at_set, at_snoc, set_again}
use Rattle.pieces.specs.declared.history.MarkCall.{MarkCall}
use Rattle.pieces.specs.declared.history.MarkCall.TheVariants.{Lowered, Found}
use Rattle.pieces.specs.declared.views.MarkView.{MarkView}
use Rattle.pieces.specs.Counting.{total}
use Rattle.pieces.specs.History.{lower, register, IsLegal, is_lowered, is_found, EachBegins, Extends}
use Rattle.pieces.specs.MarkRule.{mark_view, word_of, reading, IsSmall, FitsHistory, IsKept, kept_mark_view, given_mark_view, joined_mark_view, KnowsHistory}
use Rattle.pieces.proofs.Totals.{total-append, total-set, total-one}

abbrev Holds : State (Unit {0}) MarkView → Type 0
Holds s = IsKept s.words s.views

all_set : (F : ℕ → MarkView → Type 0) (views : List MarkView) (seat : ℕ) (w : MarkView) → F seat w → ((j : ℕ) (u : MarkView) → j ≢ seat → get_elem? views j ≡ some u → F j u) → (j : ℕ) (u : MarkView) → get_elem? (set views seat w) j ≡ some u → F j u
all_set F views seat w mine others j u e =
    ⊎_elim (λ (x : (j ≡ seat) × (w ≡ u)). subst (λ (y : ℕ × MarkView). F y.0 y.1) (λ i. (sym x.0 i, x.1 i)) mine)
    (λ (x : (j ≢ seat) × (get_elem? views j ≡ some u)). others j u x.0 x.1) (at_set views seat j w u e)

register-snoc : (m : Option ℕ) (log : List MarkCall) (d : MarkCall) → register m (log ++ d ∷ []) ≡ register (register m log) (d ∷ [])
register-snoc m [] d = refl
register-snoc m (Lowered i ∷ ds) d = register-snoc (lower m i) ds d
register-snoc m (Found r ∷ ds) d = register-snoc m ds d

legal-snoc : (m : Option ℕ) (log : List MarkCall) (d : MarkCall) → IsLegal m log → IsLegal (register m log) (d ∷ []) → IsLegal m (log ++ d ∷ [])
legal-snoc m [] d is more = more
legal-snoc m (Lowered i ∷ ds) d is more = legal-snoc (lower m i) ds d is more
legal-snoc m (Found r ∷ ds) d is more = (is.0, legal-snoc m ds d is.1 more)

word-lower : (m : Option ℕ) (i : ℕ) → i < 4294967296 → word_of (lower m i) ≡ min (word_of m) i
word-lower None i h = omega arith
word-lower (Some n) i h = refl

small-lower : (m : Option ℕ) (i : ℕ) → i < 4294967296 → IsSmall m → IsSmall (lower m i)
small-lower None i h s = h
small-lower (Some n) i h s = omega arith

reading-word : (m : Option ℕ) → IsSmall m → reading (word_of m) ≡ m
reading-word None s = refl
reading-word (Some n) s = grind (arith, nat_tests)

longer : (d : MarkCall) (log s : List MarkCall) → IsPrefix s log → IsPrefix s (log ++ d ∷ [])
longer d log s p = (p.0 ++ d ∷ [], sym (append_assoc s p.0 (d ∷ [])) ∙ ap (λ (l : List MarkCall). l ++ d ∷ []) p.1)

all_longer : (d : MarkCall) (log : List MarkCall) (others : List (List MarkCall)) → EachBegins others log → EachBegins others (log ++ d ∷ [])
all_longer d log [] h = tt
all_longer d log (s ∷ ss) h = (longer d log s h.0, all_longer d log ss h.1)

fits_longer : (d : MarkCall) (log : List MarkCall) (v : MarkView) → FitsHistory log v → FitsHistory (log ++ d ∷ []) v
fits_longer d log v h = record { seen = longer d log v.seen h.seen; others = all_longer d log v.others h.others; idle = h.idle }

set_first : (words : List ℕ) (m n : ℕ) → words ≡ m ∷ [] → set words 0 n ≡ n ∷ []
set_first words m n is = ap (λ (l : List ℕ). set l 0 n) is

-- one call
pub goes_on : (words : List ℕ) (views : List MarkView) (seat : ℕ) (v : MarkView) (d : MarkCall) (n : ℕ) (h : IsKept words views) → get_elem? views seat ≡ some v → 0 < v.parts
    → IsLegal (register None h.log) (d ∷ []) → n ≡ word_of (register (register None h.log) (d ∷ [])) → IsSmall (register (register None h.log) (d ∷ []))
    → (w : MarkView) × IsKept (set words 0 n) (set views seat w) × Extends v d w
goes_on words views seat v d n h at part legal is small =
    let log : List MarkCall = h.log ++ d ∷ [] in
    let w : MarkView = mark_view v.parts log v.others (v.made ++ d ∷ []) in
    let mine = h.fits seat v at in
    let after = register-snoc None h.log d in
    let whole : IsLegal None log = legal-snoc None h.log d h.legal legal in (
      w,
      record {
        log = log;
        word = set_first words (word_of (register None h.log)) n h.word ∙ ap (λ (m : ℕ). m ∷ []) (is ∙ ap word_of (sym after));
        legal = whole;
        small = subst IsSmall (sym after) small;
        parts = let s = total-set (λ (u : MarkView). u.parts) views seat v w at in let p = h.parts in omega arith;
        each = λ f. let s = total-set (λ (u : MarkView). total f u.made) views seat v w at in let p = h.each f in let a = total-append f h.log (d ∷ []) in let b = total-append f v.made (d ∷ []) in omega arith;
        fits = all_set (λ _ u. FitsHistory log u) views seat w
            record { seen = ([], append-nil log); others = all_longer d h.log v.others mine.others; idle = λ z. absurd (omega arith) }
            (λ j u _ e. fits_longer d h.log u (h.fits j u e));
      },
      record { between = mine.seen.0; seen = ap (λ (l : List MarkCall). l ++ d ∷ []) (sym mine.seen.1); legal = whole; made = refl; parts = refl; others = refl },
    )

first_word : (words : List ℕ) (m : ℕ) → words ≡ m ∷ [] → slice_index words 0 ≡ m
first_word words m is = ap (λ (l : List ℕ). slice_index l 0) is

-- what a lowering and a read tell of the seat
abbrev pub Lowers : ℕ → Me (Unit {0}) MarkView → Me (Unit {0}) MarkView → Type 0
Lowers i m w = Extends m.0 (Lowered i) w.0 × (w.1 ≡ m.1)

pub lowers : (slots id : ℕ) (me : Me (Unit {0}) MarkView) (i : ℕ) → 0 < me.0.parts → i < 4294967296 → Allows Holds slots id me 0 (λ n. min n i) (λ n w. Lowers i me w)
lowers slots id me i part fits s h len at range =
    let m : Option ℕ = register None h.log in
    let found : slice_index s.words 0 ≡ word_of m = first_word s.words (word_of m) h.word in
    let go = goes_on s.words s.views id me.0 (Lowered i) (min (slice_index s.words 0) i) h at part tt (ap (λ (n : ℕ). min n i) found ∙ sym (word-lower m i fits)) (small-lower m i fits h.small) in
    (go.0, keeps, tt, go.1, (go.2, refl))

pub reads : (slots id : ℕ) (me : Me (Unit {0}) MarkView) → 0 < me.0.parts → Allows Holds slots id me 0 (λ n. n) (λ n w. Extends me.0 (Found (reading n)) w.0 × (w.1 ≡ me.1))
reads slots id me part s h len at range =
    let m : Option ℕ = register None h.log in
    let found : slice_index s.words 0 ≡ word_of m = first_word s.words (word_of m) h.word in
    let is : reading (slice_index s.words 0) ≡ m = ap reading found ∙ reading-word m h.small in
    let go = goes_on s.words s.views id me.0 (Found (reading (slice_index s.words 0))) (slice_index s.words 0) h at part (is, tt) found h.small in
    (go.0, keeps, tt, go.1, (go.2, refl))

-- what the seat with all parts learns by a read that counts for nothing
pub knows : (slots id : ℕ) (me : Me (Unit {0}) MarkView) → me.0.parts ≡ 64 → Allows Holds slots id me 0 (λ n. n) (λ n w. (w ≡ me) × KnowsHistory me.0)
knows slots id me all s h len at range =
    let mine = h.fits id me.0 at in
    let m : ℕ = word_of (register None h.log) in
    let same : set s.words 0 (slice_index s.words 0) ≡ s.words = set_first s.words m (slice_index s.words 0) h.word ∙ ap (λ (n : ℕ). n ∷ []) (first_word s.words m h.word) ∙ sym h.word in
    let kept : IsKept (set s.words 0 (slice_index s.words 0)) (set s.views id me.0) =
    subst (λ (ws : List ℕ). IsKept ws (set s.views id me.0)) (sym same) (subst (IsKept s.words) (sym (set_again s.views id me.0 at)) h) in
    let told : KnowsHistory me.0 = record {
      log = h.log;
      legal = h.legal;
      each = λ f. h.each f ∙ total-one (λ (u : MarkView). total f u.made) (λ (u : MarkView). u.parts) s.views id me.0 at (h.parts ∙ sym all) (λ j u e z. ap (total f) ((h.fits j u e).idle z));
      seen = mine.seen;
      others = mine.others;
    } in
    (me.0, keeps, tt, kept, (refl, told))

pub splits : (id : ℕ) (v : MarkView) → 1 < v.parts → Splits Holds id v (kept_mark_view v) (given_mark_view v)
splits id v part s h at =
    let k : MarkView = kept_mark_view v in let g : MarkView = given_mark_view v in let mine = h.fits id v at in let vs : List MarkView = set s.views id k in
    let kept : (j : ℕ) (u : MarkView) → get_elem? vs j ≡ some u → FitsHistory h.log u =
    all_set (λ _ u. FitsHistory h.log u) s.views id k record { seen = mine.seen; others = mine.others; idle = λ z. absurd (omega arith) } (λ j u _ e. h.fits j u e) in
    let given : FitsHistory h.log g = record { seen = (h.log, refl); others = tt; idle = λ z. absurd (omega arith) } in
    record {
      log = h.log;
      word = h.word;
      legal = h.legal;
      small = h.small;
      parts = let t = total-set (λ (u : MarkView). u.parts) s.views id v k in let a = total-append (λ (u : MarkView). u.parts) vs (g ∷ []) in let p = h.parts in omega arith;
      each = λ f. let t = total-set (λ (u : MarkView). total f u.made) s.views id v k in let a = total-append (λ (u : MarkView). total f u.made) vs (g ∷ []) in let p = h.each f in omega arith;
      fits = λ j u e. ⊎_elim (λ x. kept j u x) (λ (is : g ≡ u). subst (FitsHistory h.log) is given) (at_snoc vs g u j e);
    }

both_begin : (log : List MarkCall) (xs ys : List (List MarkCall)) → EachBegins xs log → EachBegins ys log → EachBegins (xs ++ ys) log
both_begin log [] ys a b = b
both_begin log (x ∷ xs) ys a b = (a.0, both_begin log xs ys a.1 b)

pub joins : (id : ℕ) (v : MarkView) (other : ℕ) (u : MarkView) → 0 < v.parts → Joins Holds id v other u (joined_mark_view v u) (mark_view 0 [] [] [])
joins id v other u part s h at two at' =
    let both : MarkView = joined_mark_view v u in let spent : MarkView = mark_view 0 [] [] [] in let vs : List MarkView = set s.views id both in let mine = h.fits id v at in
    let was : get_elem? s.views other ≡ some u = ⊎_elim (λ x. absurd (two x.0)) (λ x. x.1) (at_set s.views id other both u at') in
    let theirs = h.fits other u was in
    record {
      log = h.log;
      word = h.word;
      legal = h.legal;
      small = h.small;
      parts = let t = total-set (λ (w : MarkView). w.parts) s.views id v both in let r = total-set (λ (w : MarkView). w.parts) vs other u spent in let p = h.parts in omega arith;
      each = λ f. let t = total-set (λ (w : MarkView). total f w.made) s.views id v both in let r = total-set (λ (w : MarkView). total f w.made) vs other u spent in let p = h.each f in let a = total-append f v.made u.made in omega arith;
      fits = all_set (λ _ w. FitsHistory h.log w) vs other spent
          record { seen = (h.log, refl); others = tt; idle = λ _. refl }
          (λ j w _ e. all_set (λ _ x. FitsHistory h.log x) s.views id both
          record { seen = mine.seen; others = both_begin h.log v.others (u.seen ∷ u.others) mine.others (theirs.seen, theirs.others); idle = λ z. absurd (omega arith) }
          (λ i x _ there. h.fits i x there) j w e);
    }

min_either : (a b : ℕ) → (min a b ≡ a) ⊎ (min a b ≡ b)
min_either a b = dite (dec_le a b) (λ h. inl (omega arith)) (λ h. inr (omega arith))

counted : (i j : ℕ) → j ≡ i → is_lowered i (Lowered j) ≡ 1
counted i j is = grind (arith, nat_tests)

uncounted : (i j : ℕ) → j ≢ i → is_found i (Found (Some j)) ≡ 0
uncounted i j isnt = grind (arith, nat_tests)

some_is : (i j : ℕ) → Some j ≡ Some i → j ≡ i
some_is i j is = cc

-- in a legal history an index that is found was lowered, where the register did not have it at the start
found_lowered : (i : ℕ) (m : Option ℕ) (log : List MarkCall) → IsLegal m log → 0 < total (is_found i) log → (m ≡ Some i) ⊎ (0 < total (is_lowered i) log)
found_lowered i m [] legal more = absurd (omega arith)
found_lowered i None (Lowered j ∷ ds) legal more =
    ⊎_elim (λ (is : Some j ≡ Some i). inr (let t = counted i j (some_is i j is) in omega arith)) (λ p. inr (omega arith)) (found_lowered i (Some j) ds legal (omega arith))
found_lowered i (Some n) (Lowered j ∷ ds) legal more =
    ⊎_elim (λ (is : Some (min n j) ≡ Some i).
    ⊎_elim (λ (l : min n j ≡ n). inl (ap Some (sym l ∙ some_is i (min n j) is))) (λ (r : min n j ≡ j). inr (let t = counted i j (sym r ∙ some_is i (min n j) is) in omega arith)) (min_either n j))
    (λ p. inr (omega arith)) (found_lowered i (Some (min n j)) ds legal (omega arith))
found_lowered i m (Found None ∷ ds) legal more = ⊎_elim inl (λ p. inr (omega arith)) (found_lowered i m ds legal.1 (omega arith))
found_lowered i m (Found (Some j) ∷ ds) legal more =
    dite (ℕ_discrete j i) (λ is. inl (sym legal.0 ∙ ap Some is)) (λ isnt. let z = uncounted i j isnt in ⊎_elim inl (λ p. inr (omega arith)) (found_lowered i m ds legal.1 (omega arith)))

-- what any share finds, some share lowered
pub found_was_lowered : (i : ℕ) (v : MarkView) → KnowsHistory v → 0 < total (is_found i) v.made → 0 < total (is_lowered i) v.made
found_was_lowered i v h found = let f = h.each (is_found i) in let l = h.each (is_lowered i) in
    ⊎_elim (λ (is : None ≡ Some i). absurd (cc)) (λ p. omega arith) (found_lowered i None h.log h.legal (omega arith))
