-- All workers together answer each index, in rising order, but for those above one that is refused or finds no memory (`gathered`).
-- It goes by induction over the list of workers, those after the run beside the same ones before it (`Pairs`).
-- `gather`, `split_crew` and `sorted` of src/gathering.rt cite it.
use Rattle.std.proofs.Common.{◌≡◌, ℕ, zero, suc, ◌+◌, ◌/◌, ◌<◌, ◌≤◌, ◌||◌, Bool, true, false, true≢false, List, [], ◌∷◌, ◌++◌, All, map, length, sym, refl, ap, ◌∙◌, subst, arith, ⊎_elim, ◌⊎◌, inl, inr, append_assoc, append-nil}
use Rattle.std.specs.Prelude.{sum_by, IsPermutation, slice_index_or}
use Rattle.std.specs.List.Sorted.{IsNonDecreasingBy}
use Rattle.std.proofs.lemmas.List.Sums.{sum_by-cons}
use Rattle.std.proofs.lemmas.List.Elements.{All-append, All-nil}
use Rattle.std.proofs.lemmas.List.Sorted.{sum_by-IsPermutation, All-permutation}
use mathlib.Core.Logic.{dite}
use native.Mathlib.Decide.{dec_lt}
use Rattle.atomic_table.specs.Seated.{TableId}
use Rattle.pieces.specs.declared.share.Access.{Access}
use Rattle.pieces.specs.declared.share.Access.TheVariants.{Pops, Steals}
use Rattle.pieces.specs.declared.share.Share.{Share}
use Rattle.pieces.specs.declared.member.Member.{Member}
use Rattle.pieces.specs.declared.bag.Bag.{Bag}
use Rattle.pieces.specs.declared.mark.Mark.{Mark}
use Rattle.pieces.specs.Counting.{total, times}
use Rattle.pieces.specs.History.{is_found, is_lowered}
use Rattle.pieces.specs.Shares.{DequeId, IsFirst, IsStealing, SameKind, IsIn, IsFresh, EachShare, IsLed, bag_parts, mark_parts, taken, own_calls, count_of}
use Rattle.pieces.specs.Bags.{deque_of, count_in, word_id, IsShareOf, HasSeatAt, AreSharesOf}
use Rattle.pieces.specs.Ledger.{log_of, ledger, calls, any_met, Log, Settles}
use Rattle.pieces.specs.Gathered.{Answer, indices, Allowed, is_fault_at, is_at, Rises, Gathers}
use Rattle.pieces.specs.Crew.{IsReady, IsDone, shares_of, locals_of, NoneYet, any_short, answers_of, answers_by}
use Rattle.pieces.proofs.Totals.{total-append}
use Rattle.pieces.proofs.Counts.{counted, times-indices, or_false}
use Rattle.pieces.proofs.DequeSteps.{times-both}
use Rattle.pieces.proofs.OneWorker.{piece_below}

or_parts : (a b : Bool) → (a || b) ≡ false → (a ≡ false) × (b ≡ false)
or_parts true b is = absurd (true≢false is)
or_parts false b is = (refl, is)

module _ {L O F : Type 0} where
  -- one worker more
  pub shares_of-snoc : (ms : List (Member L O F)) (m : Member L O F) → shares_of (ms ++ m ∷ []) ≡ shares_of ms ++ m.share ∷ []
  shares_of-snoc [] m = refl
  shares_of-snoc (x ∷ xs) m = ap (λ (l : List Share). x.share ∷ l) (shares_of-snoc xs m)

  pub answers_of-snoc : (ms : List (Member L O F)) (m : Member L O F) → answers_of (ms ++ m ∷ []) ≡ answers_of ms ++ (answers_by m)
  answers_of-snoc [] m = append-nil (answers_by m)
  answers_of-snoc (x ∷ xs) m = ap (λ (l : List (Answer O F)). (answers_by x) ++ l) (answers_of-snoc xs m) ∙ sym (append_assoc (answers_by x) (answers_of xs) (answers_by m))

  pub any_short-snoc : (ms : List (Member L O F)) (m : Member L O F) → m.short ≡ false → any_short (ms ++ m ∷ []) ≡ any_short ms
  any_short-snoc [] m is = or_false m.short ∙ is
  any_short-snoc (x ∷ xs) m is = ap (λ (b : Bool). x.short || b) (any_short-snoc xs m is)

  -- workers that have done nothing yet are ready
  pub all_ready : (bag : Bag) (mark : Mark) (belongs : L → Type 0) (ms : List (Member L O F)) → EachShare (IsShareOf bag) (shares_of ms) → EachShare (HasSeatAt mark) (shares_of ms) → EachShare IsFresh (shares_of ms)
      → All belongs (locals_of ms) → NoneYet ms → All (IsReady bag mark belongs) ms
  all_ready bag mark belongs [] a b c l n k d lt = absurd (omega arith)
  all_ready bag mark belongs (m ∷ ms) a b c l n zero d lt = record { in_bag = a.0; at_mark = b.0; fresh = c.0; none = n.0; local = l 0 m.local (omega arith) }
  all_ready bag mark belongs (m ∷ ms) a b c l n (suc k) d lt = all_ready bag mark belongs ms a.1 b.1 c.1 (λ j e lt'. l (suc j) e (omega arith)) n.1 k d (omega arith)

  abbrev pub Pairs : (Member L O F → Member L O F → Type 0) → List (Member L O F) → List (Member L O F) → Type 0
  Pairs P [] [] = Unit {0}
  Pairs P [] (y ∷ ys) = ⊥
  Pairs P (x ∷ xs) [] = ⊥
  Pairs P (x ∷ xs) (y ∷ ys) = P x y × Pairs P xs ys

  pub pairs : (P : Member L O F → Member L O F → Type 0) (xs ys : List (Member L O F)) → length xs ≡ length ys → ((i : ℕ) (d : Member L O F) → i < length xs → P (slice_index_or xs i d) (slice_index_or ys i d)) → Pairs P xs ys
  pairs P [] [] len h = tt
  pairs P [] (y ∷ ys) len h = absurd (omega arith)
  pairs P (x ∷ xs) [] len h = absurd (omega arith)
  pairs P (x ∷ xs) (y ∷ ys) len h = (h 0 x (omega arith), pairs P xs ys (omega arith) (λ i d lt. h (suc i) d (omega arith)))

first_kind : (mark : TableId) (a b : Access) → SameKind a b → IsFirst mark a → IsFirst mark b
first_kind mark (Pops w x) (Pops w' x') same f = (ap (λ t. t.shared.table_id) same ∙ f.0, f.1)
first_kind mark (Pops w x) (Steals p) same f = same
first_kind mark (Steals p) b same f = absurd f

stealing_kind : (a b : Access) → SameKind a b → IsStealing a → IsStealing b
stealing_kind (Pops w x) b same t = absurd t
stealing_kind (Steals p) (Pops w x) same t = same
stealing_kind (Steals p) (Steals q) same t = tt

module _ {L O F : Type 0} (bag : Bag) (mark : Mark) (passes : ℕ → Type 0) (gives : ℕ → O → Type 0) (refuses : ℕ → F → Type 0) where
  abbrev Done : Member L O F → Member L O F → Type 0
  Done m m' = IsDone bag mark passes gives refuses m m'

  stealing_after : (ms ns : List (Member L O F)) → Pairs Done ms ns → EachShare (λ t. IsStealing t.access) (shares_of ms) → EachShare (λ t. IsStealing t.access) (shares_of ns)
  stealing_after [] [] p h = tt
  stealing_after [] (y ∷ ys) p h = absurd p
  stealing_after (x ∷ xs) [] p h = absurd p
  stealing_after (x ∷ xs) (y ∷ ys) p h = (stealing_kind x.share.access y.share.access p.0.kind h.0, stealing_after xs ys p.1 h.1)

  led_after : (ms ns : List (Member L O F)) → Pairs Done ms ns → IsLed (word_id mark) (shares_of ms) → IsLed (word_id mark) (shares_of ns)
  led_after [] ns p h = absurd h
  led_after (x ∷ xs) [] p h = absurd p
  led_after (x ∷ xs) (y ∷ ys) p h = (first_kind (word_id mark) x.share.access y.share.access p.0.kind h.0, stealing_after xs ys p.1 h.1)

  in_after : (ms ns : List (Member L O F)) → Pairs Done ms ns → EachShare (IsShareOf bag) (shares_of ns)
  in_after [] [] p = tt
  in_after [] (y ∷ ys) p = absurd p
  in_after (x ∷ xs) [] p = absurd p
  in_after (x ∷ xs) (y ∷ ys) p = (p.0.in_bag, in_after xs ys p.1)

  on_after : (ms ns : List (Member L O F)) → Pairs Done ms ns → EachShare (HasSeatAt mark) (shares_of ns)
  on_after [] [] p = tt
  on_after [] (y ∷ ys) p = absurd p
  on_after (x ∷ xs) [] p = absurd p
  on_after (x ∷ xs) (y ∷ ys) p = (p.0.at_mark, on_after xs ys p.1)

  parts_after : (ms ns : List (Member L O F)) → Pairs Done ms ns → (total bag_parts (shares_of ns) ≡ total bag_parts (shares_of ms)) × (total mark_parts (shares_of ns) ≡ total mark_parts (shares_of ms))
  parts_after [] [] p = (refl, refl)
  parts_after [] (y ∷ ys) p = absurd p
  parts_after (x ∷ xs) [] p = absurd p
  parts_after (x ∷ xs) (y ∷ ys) p = let r = parts_after xs ys p.1 in let a = p.0.bag_parts in let b = p.0.mark_parts in (omega arith, omega arith)

  pub crew_after : (ms ns : List (Member L O F)) → Pairs Done ms ns → AreSharesOf bag mark (shares_of ms) → AreSharesOf bag mark (shares_of ns)
  crew_after ms ns p h = let r = parts_after ms ns p in
      record { led = led_after ms ns p h.led; each_in = in_after ms ns p; each_on = on_after ms ns p; bag_parts_are = r.0 ∙ h.bag_parts_are; mark_parts_are = r.1 ∙ h.mark_parts_are }

  -- each index was run once at most
  pub once_all : (ms ns : List (Member L O F)) → Pairs Done ms ns → any_short ns ≡ false → (i : ℕ) → total (is_at i) (answers_of ns) ≤ times (i / bag.size) (ledger (map log_of (shares_of ns)))
  once_all [] [] p w i = omega arith
  once_all [] (y ∷ ys) p w i = absurd p
  once_all (x ∷ xs) [] p w i = absurd p
  once_all (x ∷ xs) (y ∷ ys) p w i = let o = or_parts y.short (any_short ys) w in let h = once_all xs ys p.1 o.1 i in let a = (p.0.answers o.0).once i in let t = times-indices i (answers_by y) in
      let b = total-append (is_at i) (answers_by y) (answers_of ys) in let c = times-both (i / bag.size) (taken y.share) (ledger (map log_of (shares_of ys))) in omega arith

  -- an index whose piece was taken was run, or a smaller one was found on the mark
  pub covers_all : (ms ns : List (Member L O F)) → Pairs Done ms ns → any_short ns ≡ false → (i : ℕ) → i < bag.n → 0 < times (i / bag.size) (ledger (map log_of (shares_of ns)))
      → (0 < total (is_at i) (answers_of ns)) ⊎ ((m : ℕ) × (m < i) × (0 < total (is_found m) (calls (map log_of (shares_of ns)))))
  covers_all [] [] p w i below some = absurd (omega arith)
  covers_all [] (y ∷ ys) p w i below some = absurd p
  covers_all (x ∷ xs) [] p w i below some = absurd p
  covers_all (x ∷ xs) (y ∷ ys) p w i below some =
      let o = or_parts y.short (any_short ys) w in let c = times-both (i / bag.size) (taken y.share) (ledger (map log_of (shares_of ys))) in let b = total-append (is_at i) (answers_by y) (answers_of ys) in
      dite (dec_lt 0 (times (i / bag.size) (taken y.share)))
      (λ here. ⊎_elim (λ (q : 0 < times i (indices (answers_by y))). inl (let t = times-indices i (answers_by y) in omega arith))
      (λ (q : (m : ℕ) × (m < i) × (0 < total (is_found m) (own_calls y.share))). inr (q.0, q.1, (let e = total-append (is_found q.0) (own_calls y.share) (calls (map log_of (shares_of ys))) in let s = q.2 in omega arith)))
      ((p.0.answers o.0).covers i below here))
      (λ not_here. ⊎_elim (λ (q : 0 < total (is_at i) (answers_of ys)). inl (omega arith))
      (λ (q : (m : ℕ) × (m < i) × (0 < total (is_found m) (calls (map log_of (shares_of ys))))). inr (q.0, q.1, (let e = total-append (is_found q.0) (own_calls y.share) (calls (map log_of (shares_of ys))) in let s = q.2 in omega arith)))
      (covers_all xs ys p.1 o.1 i below (omega arith)))

  -- what was lowered stands as refused or as Memory
  pub lowered_all : (ms ns : List (Member L O F)) → Pairs Done ms ns → any_short ns ≡ false → (m : ℕ) → 0 < total (is_lowered m) (calls (map log_of (shares_of ns))) → 0 < total (is_fault_at m) (answers_of ns)
  lowered_all [] [] p w m some = absurd (omega arith)
  lowered_all [] (y ∷ ys) p w m some = absurd p
  lowered_all (x ∷ xs) [] p w m some = absurd p
  lowered_all (x ∷ xs) (y ∷ ys) p w m some =
      let o = or_parts y.short (any_short ys) w in let e = total-append (is_lowered m) (own_calls y.share) (calls (map log_of (shares_of ys))) in let b = total-append (is_fault_at m) (answers_by y) (answers_of ys) in
      dite (dec_lt 0 (total (is_lowered m) (own_calls y.share))) (λ here. let a = (p.0.answers o.0).lowered m here in omega arith) (λ not_here. let a = lowered_all xs ys p.1 o.1 m (omega arith) in omega arith)

  pub allowed_all : (ms ns : List (Member L O F)) → Pairs Done ms ns → any_short ns ≡ false → All (Allowed passes gives refuses bag.n) (answers_of ns)
  allowed_all [] [] p w = All-nil (Allowed passes gives refuses bag.n)
  allowed_all [] (y ∷ ys) p w = absurd p
  allowed_all (x ∷ xs) [] p w = absurd p
  allowed_all (x ∷ xs) (y ∷ ys) p w = let o = or_parts y.short (any_short ys) w in All-append (Allowed passes gives refuses bag.n) (answers_by y) (answers_of ys) (p.0.allowed o.0) (allowed_all xs ys p.1 o.1)

  pub met_all : (ms ns : List (Member L O F)) → Pairs Done ms ns → any_short ns ≡ false → IsLed (word_id mark) (shares_of ms) → any_met (map log_of (shares_of ns)) ≡ true
  met_all [] ns p w led = absurd led
  met_all (x ∷ xs) [] p w led = absurd p
  met_all (x ∷ xs) (y ∷ ys) p w led = let o = or_parts y.short (any_short ys) w in ap (λ (b : Bool). b || any_met (map log_of (shares_of ys))) (p.0.met o.0)

module _ {X : Type 0} where
  pub total-sum : (f : X → ℕ) (xs : List X) → total f xs ≡ sum_by f xs
  total-sum f [] = refl
  total-sum f (x ∷ xs) = let h = total-sum f xs in let e = sum_by-cons f x xs in omega arith

  pub total-permutation : (f : X → ℕ) (xs ys : List X) → IsPermutation xs ys → total f ys ≡ total f xs
  total-permutation f xs ys p = total-sum f ys ∙ sum_by-IsPermutation f xs ys p ∙ sym (total-sum f xs)

  at_least : (f : X → ℕ) (xs : List X) (j : ℕ) (d : X) → j < length xs → f (slice_index_or xs j d) ≤ total f xs
  at_least f [] j d lt = absurd (omega arith)
  at_least f (x ∷ xs) zero d lt = omega arith
  at_least f (x ∷ xs) (suc j) d lt = let h = at_least f xs j d (omega arith) in omega arith

  pub two_at : (f : X → ℕ) (xs : List X) (i j : ℕ) (d : X) → i < j → j < length xs → f (slice_index_or xs i d) + f (slice_index_or xs j d) ≤ total f xs
  two_at f [] i j d up lt = absurd (omega arith)
  two_at f (x ∷ xs) zero zero d up lt = absurd (omega arith)
  two_at f (x ∷ xs) zero (suc j) d up lt = let h = at_least f xs j d (omega arith) in omega arith
  two_at f (x ∷ xs) (suc i) zero d up lt = absurd (omega arith)
  two_at f (x ∷ xs) (suc i) (suc j) d up lt = let h = two_at f xs i j d (omega arith) (omega arith) in omega arith

module _ {O F : Type 0} where
  -- indices that do not fall, none of them twice, rise
  pub rises : (xs : List (Answer O F)) → IsNonDecreasingBy (λ a. a.0) xs → ((i : ℕ) → total (is_at i) xs ≤ 1) → Rises xs
  rises xs up once i j d less lt =
      let le = up i j d (omega arith) lt in
      dite (dec_lt (slice_index_or xs i d).0 (slice_index_or xs j d).0) (λ y. y)
      (λ no. absurd (let k : ℕ = (slice_index_or xs i d).0 in let two = two_at (is_at k) xs i j d less lt in let m = once k in
      let a = counted k k refl in let b = counted k (slice_index_or xs j d).0 (omega arith) in omega arith))

count_is : (deque : DequeId) (count : ℕ) (mark : TableId) (ss : List Share) → IsLed mark ss → EachShare (IsIn deque count) ss → count_of ss ≡ count
count_is deque count mark [] led h = absurd led
count_is deque count mark (s ∷ ss) led h = h.0.made

module _ {L O F : Type 0} (bag : Bag) (mark : Mark) (passes : ℕ → Type 0) (gives : ℕ → O → Type 0) (refuses : ℕ → F → Type 0) where
  -- no index was run twice
  pub run_once : (ms ns : List (Member L O F)) (ss : List Share) (logs : List Log) (xs : List (Answer O F)) → Pairs (IsDone bag mark passes gives refuses) ms ns → any_short ns ≡ false → ss ≡ shares_of ns
      → logs ≡ map log_of ss → Settles (count_of ss) logs → xs ≡ answers_of ns → (i : ℕ) → total (is_at i) xs ≤ 1
  run_once ms ns ss logs xs p w s l settled x i =
      let a = once_all bag mark passes gives refuses ms ns p w i in let b = settled.once (i / bag.size) in let e = ap (total (is_at i)) x in
      let f = ap (λ (y : List Log). times (i / bag.size) (ledger y)) l in let g = ap (λ (y : List Share). times (i / bag.size) (ledger (map log_of y))) s in omega arith

  -- what all workers answer together, in rising order
  pub gathered : (ms ns : List (Member L O F)) (ss : List Share) (logs : List Log) (xs v : List (Answer O F)) → 0 < bag.size → AreSharesOf bag mark (shares_of ms)
      → Pairs (IsDone bag mark passes gives refuses) ms ns → any_short ns ≡ false → ss ≡ shares_of ns → logs ≡ map log_of ss → Settles (count_of ss) logs → xs ≡ answers_of ns → IsPermutation xs v → Rises v
      → Gathers bag.n passes gives refuses v
  gathered ms ns ss logs xs v some crew p w s l settled x perm up =
      let after = crew_after bag mark passes gives refuses ms ns p crew in
      let whole : Settles (count_of (shares_of ns)) (map log_of (shares_of ns)) = subst (λ (y : List Share). Settles (count_of y) (map log_of y)) s (subst (Settles (count_of ss)) l settled) in
      let counts = count_is (deque_of bag) (count_in bag) (word_id mark) (shares_of ns) after.led after.each_in in
      let met = met_all bag mark passes gives refuses ms ns p w crew.led in
      record {
        rises = up;
        allowed = All-permutation (Allowed passes gives refuses bag.n) xs v perm (subst (All (Allowed passes gives refuses bag.n)) (sym x) (allowed_all bag mark passes gives refuses ms ns p w));
        covers = λ i below.
            let b = piece_below bag.n bag.size i some below in
            let one = whole.every met (i / bag.size) (omega arith) in
            ⊎_elim (λ (q : 0 < total (is_at i) (answers_of ns)). inl (let t = times-indices i v in let e = ap (total (is_at i)) x in let r = total-permutation (is_at i) xs v perm in omega arith))
            (λ (q : (m : ℕ) × (m < i) × (0 < total (is_found m) (calls (map log_of (shares_of ns))))).
            inr (q.0, q.1, (let f = lowered_all bag mark passes gives refuses ms ns p w q.0 (whole.lowered q.0 q.2) in let e = ap (total (is_fault_at q.0)) x in let r = total-permutation (is_fault_at q.0) xs v perm in omega arith)))
            (covers_all bag mark passes gives refuses ms ns p w i below (omega arith));
      }
