-- From what the workers answer together to the loop of one thread.
use Rattle.std.proofs.Common.{◌≡◌, ℕ, zero, suc, ◌<◌, ◌≤◌, List, [], ◌∷◌, ◌++◌, length, sym, refl, ap, ◌∙◌, subst, arith, ⊎_elim}
use Rattle.std.specs.Prelude.{slice_index_or, slice_get, Some, Result, Ok, Err, MatchResult}
use mathlib.Core.Logic.{dite}
use native.Mathlib.Decide.{dec_lt, ℕ_discrete}
use Rattle.pieces.specs.declared.job.JobFault.{JobFault}
use Rattle.pieces.specs.declared.job.JobFault.TheVariants.{Refused}
use Rattle.pieces.specs.Counting.{total, times}
use Rattle.pieces.specs.Faults.{AllowsFault}
use Rattle.pieces.specs.Gathered.{Answer, indices, Allowed, is_fault_at, fault_count, is_at, Rises, Gathers}
use Rattle.pieces.specs.TryAll.{AllPass, StopsAt, Results, FirstFault, StopsIn}
use Rattle.std.proofs.Common.{Vec, Global}
use Rattle.pieces.specs.declared.trying.TryFault.{TryFault}
use Rattle.pieces.specs.declared.trying.TryFault.TheVariants.{Stopped, Memory}
use Rattle.pieces.proofs.Counts.{one_is, times-indices}

module _ {O F : Type 0} where
  -- an answer that counts stands at some position
  pub position : (f : Answer O F → ℕ) (xs : List (Answer O F)) → 0 < total f xs → (p : ℕ) × (p < length xs) × ((d : Answer O F) → 0 < f (slice_index_or xs p d))
  position f [] some = absurd (omega arith)
  position f (x ∷ xs) some = dite (dec_lt 0 (f x)) (λ here. (0, omega arith, λ d. here))
      (λ no. let r = position f xs (omega arith) in let lt = r.1 in (suc r.0, omega arith, λ d. r.2 d))

  pub position_of : (i : ℕ) (xs : List (Answer O F)) → 0 < times i (indices xs) → (p : ℕ) × (p < length xs) × ((d : Answer O F) → (slice_index_or xs p d).0 ≡ i)
  position_of i xs some = let r = position (is_at i) xs (let t = times-indices i xs in omega arith) in (r.0, r.1, λ d. one_is i (slice_index_or xs r.0 d).0 (r.2 d))

  is_fault : (m k : ℕ) (a : Result O (JobFault F)) → 0 < fault_count m k a → (k ≡ m) × ((o : O) → a ≡ Ok o → ⊥)
  is_fault m k (Ok out) some = absurd (omega arith)
  is_fault m k (Err e) some = (one_is m k some, λ o is. absurd (cc))

  pub Results-snoc : (xs : List (Answer O F)) (os : List O) (a : Answer O F) (o : O) → Results xs os → a.1 ≡ Ok o → Results (xs ++ a ∷ []) (os ++ o ∷ [])
  Results-snoc [] [] a o h is = (is, tt)
  Results-snoc [] (p ∷ ps) a o h is = absurd h
  Results-snoc (x ∷ xs) [] a o h is = absurd h
  Results-snoc (x ∷ xs) (p ∷ ps) a o h is = (h.0, Results-snoc xs ps a o h.1 is)

  Results-length : (xs : List (Answer O F)) (os : List O) → Results xs os → length xs ≡ length os
  Results-length [] [] h = refl
  Results-length [] (p ∷ ps) h = absurd h
  Results-length (x ∷ xs) [] h = absurd h
  Results-length (x ∷ xs) (p ∷ ps) h = let r = Results-length xs ps h.1 in omega arith

  Results-at : (xs : List (Answer O F)) (os : List O) (p : ℕ) (d : Answer O F) → Results xs os → p < length xs → (o : O) × ((slice_index_or xs p d).1 ≡ Ok o)
  Results-at [] os p d h lt = absurd (omega arith)
  Results-at (x ∷ xs) [] p d h lt = absurd h
  Results-at (x ∷ xs) (q ∷ qs) zero d h lt = (q, h.0)
  Results-at (x ∷ xs) (q ∷ qs) (suc p) d h lt = Results-at xs qs p d h.1 (omega arith)

  Results-get : (xs : List (Answer O F)) (os : List O) (p : ℕ) (d : Answer O F) (o : O) → Results xs os → slice_get os p ≡ Some o → (p < length xs) × ((slice_index_or xs p d).1 ≡ Ok o)
  Results-get [] [] p d o h is = absurd (cc)
  Results-get [] (q ∷ qs) p d o h is = absurd h
  Results-get (x ∷ xs) [] p d o h is = absurd h
  Results-get (x ∷ xs) (q ∷ qs) zero d o h is = let e : q ≡ o = cc in (omega arith, h.0 ∙ ap Ok e)
  Results-get (x ∷ xs) (q ∷ qs) (suc p) d o h is = let r = Results-get xs qs p d o h.1 is in let lt = r.0 in (omega arith, r.1)

  front_at : (xs ys : List (Answer O F)) (p : ℕ) (d : Answer O F) → p < length xs → slice_index_or (xs ++ ys) p d ≡ slice_index_or xs p d
  front_at [] ys p d lt = absurd (omega arith)
  front_at (x ∷ xs) ys zero d lt = refl
  front_at (x ∷ xs) ys (suc p) d lt = front_at xs ys p d (omega arith)

  mid_at : (xs ys : List (Answer O F)) (a d : Answer O F) → slice_index_or (xs ++ a ∷ ys) (length xs) d ≡ a
  mid_at [] ys a d = refl
  mid_at (x ∷ xs) ys a d = mid_at xs ys a d

  longer_by : (xs ys : List (Answer O F)) (a : Answer O F) → length xs < length (xs ++ a ∷ ys)
  longer_by [] ys a = omega arith
  longer_by (x ∷ xs) ys a = let h = longer_by xs ys a in omega arith

module _ {O F : Type 0} (n : ℕ) (passes : ℕ → Type 0) (gives : ℕ → O → Type 0) (refuses : ℕ → F → Type 0) where
  ok_passes : (a : Answer O F) (o : O) → Allowed passes gives refuses n a → a.1 ≡ Ok o → passes a.0 × gives a.0 o
  ok_passes a o h is = subst (λ (r : Result O (JobFault F)). MatchResult r (λ out. passes a.0 × gives a.0 out) (AllowsFault (refuses a.0))) is h.1

  err_refuses : (a : Answer O F) (f : F) → Allowed passes gives refuses n a → a.1 ≡ Err (Refused f) → refuses a.0 f
  err_refuses a f h is = subst (λ (r : Result O (JobFault F)). MatchResult r (λ out. passes a.0 × gives a.0 out) (AllowsFault (refuses a.0))) is h.1

  -- before the first fault every index passes
  passes_before : (before after xs : List (Answer O F)) (outs : List O) (a : Answer O F) → xs ≡ before ++ a ∷ after → Results before outs → Gathers n passes gives refuses xs → (i : ℕ) → i < a.0 → i < n → passes i
  passes_before before after xs outs a is res h i less below =
      let at_a : slice_index_or xs (length before) a ≡ a = ap (λ (l : List (Answer O F)). slice_index_or l (length before) a) is ∙ mid_at before after a a in
      let long : length before < length xs = subst (λ (l : List (Answer O F)). length before < length l) (sym is) (longer_by before after a) in
      let early : (p : ℕ) → p < length xs → (slice_index_or xs p a).0 < a.0 → (p < length before) × (slice_index_or xs p a ≡ slice_index_or before p a) =
      λ p lt low. let here : p < length before = dite (dec_lt p (length before)) (λ y. y) (λ no. absurd (dite (ℕ_discrete (length before) p)
      (λ same. let e : (slice_index_or xs p a).0 ≡ a.0 = ap (λ (k : ℕ). (slice_index_or xs k a).0) (sym same) ∙ ap (λ (z : Answer O F). z.0) at_a in omega arith)
      (λ other. let up = h.rises (length before) p a (omega arith) lt in let e : (slice_index_or xs (length before) a).0 ≡ a.0 = ap (λ (z : Answer O F). z.0) at_a in omega arith))) in
      (here, ap (λ (l : List (Answer O F)). slice_index_or l p a) is ∙ front_at before (a ∷ after) p a here) in
      ⊎_elim
      (λ (q : 0 < times i (indices xs)).
      let r = position_of i xs q in let key : (slice_index_or xs r.0 a).0 ≡ i = r.2 a in let e = early r.0 r.1 (omega arith) in let o = Results-at before outs r.0 a res e.0 in
      subst passes key (ok_passes (slice_index_or xs r.0 a) o.0 (h.allowed r.0 a r.1) (ap (λ (z : Answer O F). z.1) e.1 ∙ o.1)).0)
      (λ (q : (m : ℕ) × (m < i) × (0 < total (is_fault_at m) xs)).
      let r = position (is_fault_at q.0) xs q.2 in let f = is_fault q.0 (slice_index_or xs r.0 a).0 (slice_index_or xs r.0 a).1 (r.2 a) in let k = f.0 in let lt = q.1 in
      let e = early r.0 r.1 (omega arith) in let o = Results-at before outs r.0 a res e.0 in
      absurd (f.1 o.0 (ap (λ (z : Answer O F). z.1) e.1 ∙ o.1)))
      (h.covers i below)

  pub stops_at : (xs : List (Answer O F)) (index : ℕ) (fault : F) → Gathers n passes gives refuses xs → FirstFault xs index (Refused fault) → (index < n) × refuses index fault × ((i : ℕ) → i < index → passes i)
  stops_at xs index fault h s =
      let a : Answer O F = (index, Err (Refused fault)) in
      let at_a : slice_index_or xs (length s.0) a ≡ a = ap (λ (l : List (Answer O F)). slice_index_or l (length s.0) a) s.3 ∙ mid_at s.0 s.2 a a in
      let long : length s.0 < length xs = subst (λ (l : List (Answer O F)). length s.0 < length l) (sym s.3) (longer_by s.0 s.2 a) in
      let al : Allowed passes gives refuses n a = subst (Allowed passes gives refuses n) at_a (h.allowed (length s.0) a long) in
      let low = al.0 in
      (low, err_refuses a fault al refl, λ i less. passes_before s.0 s.2 xs s.1 a s.3 s.4 h i less (omega arith))

  at_least : (xs : List (Answer O F)) → Rises xs → (k : ℕ) (d : Answer O F) → k < length xs → k ≤ (slice_index_or xs k d).0
  at_least xs up zero d lt = omega arith
  at_least xs up (suc k) d lt = let h = at_least xs up k d (omega arith) in let u = up k (suc k) d (omega arith) lt in omega arith

  -- where no answer is a fault, each index stands at its own position
  in_place : (xs : List (Answer O F)) (outs : List O) → Gathers n passes gives refuses xs → Results xs outs → (b k : ℕ) (d : Answer O F) → k < b → k < length xs → (slice_index_or xs k d).0 ≡ k
  in_place xs outs h res zero k d lt in_xs = absurd (omega arith)
  in_place xs outs h res (suc b) k d lt in_xs =
      let below = (h.allowed k d in_xs).0 in
      let here : k < n → (p : ℕ) × (p < length xs) × ((slice_index_or xs p d).0 ≡ k) = λ kn. ⊎_elim (λ (q : 0 < times k (indices xs)). let r = position_of k xs q in (r.0, r.1, r.2 d))
      (λ (q : (m : ℕ) × (m < k) × (0 < total (is_fault_at m) xs)). let r = position (is_fault_at q.0) xs q.2 in let f = is_fault q.0 (slice_index_or xs r.0 d).0 (slice_index_or xs r.0 d).1 (r.2 d) in
      let o = Results-at xs outs r.0 d res r.1 in absurd (f.1 o.0 o.1)) (h.covers k kn) in
      dite (dec_lt k n)
      (λ kn. let r = here kn in
      dite (dec_lt r.0 k) (λ less. absurd (let e = in_place xs outs h res b r.0 d (omega arith) r.1 in let z = r.2 in omega arith))
      (λ no. dite (ℕ_discrete k r.0) (λ same. ap (λ (j : ℕ). (slice_index_or xs j d).0) same ∙ r.2)
      (λ other. absurd (let up = h.rises k r.0 d (omega arith) r.1 in let z = r.2 in let a = at_least xs h.rises k d in_xs in omega arith))))
      (λ no. absurd (let a = at_least xs h.rises k d in_xs in omega arith))

  pub all_pass : (xs : List (Answer O F)) (outs : List O) (d : Answer O F) → Gathers n passes gives refuses xs → Results xs outs → AllPass n passes gives outs
  all_pass xs outs d h res = record {
    len = let same = Results-length xs outs res in
        dite (dec_lt n (length xs)) (λ long. absurd (let a = at_least xs h.rises n d long in let b = (h.allowed n d long).0 in omega arith))
        (λ no. dite (dec_lt (length xs) n)
        (λ short. absurd (⊎_elim (λ (q : 0 < times (length xs) (indices xs)). let r = position_of (length xs) xs q in let lt = r.1 in let z = r.2 d in let e = in_place xs outs h res (suc r.0) r.0 d (omega arith) lt in omega arith)
        (λ (q : (m : ℕ) × (m < length xs) × (0 < total (is_fault_at m) xs)). let r = position (is_fault_at q.0) xs q.2 in let f = is_fault q.0 (slice_index_or xs r.0 d).0 (slice_index_or xs r.0 d).1 (r.2 d) in
        let o = Results-at xs outs r.0 d res r.1 in f.1 o.0 o.1) (h.covers (length xs) short)))
        (λ not_short. omega arith));
    each = λ i out is. let r = Results-get xs outs i d out res is in let key = in_place xs outs h res (suc i) i d (omega arith) r.0 in
        subst (λ (k : ℕ). passes k × gives k out) key (ok_passes (slice_index_or xs i d) out (h.allowed i d r.0) r.1);
  }

  -- without a default answer: an empty list has none
  pub all_pass_any : (xs : List (Answer O F)) (outs : List O) → Gathers n passes gives refuses xs → Results xs outs → AllPass n passes gives outs
  all_pass_any [] [] h res = record { len = dite (dec_lt 0 n) (λ some. absurd (⊎_elim (λ (q : 0 < times 0 (indices {O = O} {F = F} [])). omega arith) (λ (q : (m : ℕ) × (m < 0) × (0 < total (is_fault_at {O = O} {F = F} m) [])). let lt = q.1 in omega arith) (h.covers 0 some))) (λ none. omega arith); each = λ i out is. absurd (cc) }
  all_pass_any [] (o ∷ os) h res = absurd res
  all_pass_any (x ∷ xs) outs h res = all_pass (x ∷ xs) outs x h res

pub tried : {O F : Type 0} (n : ℕ) (passes : ℕ → Type 0) (gives : ℕ → O → Type 0) (refuses : ℕ → F → Type 0) (xs : List (Answer O F)) (r : Result (Vec O Global) (TryFault F)) → Gathers n passes gives refuses xs
    → MatchResult r (λ v. Results xs v.items) (StopsIn xs) → MatchResult r (λ v. AllPass n passes gives v.items) (StopsAt n passes refuses)
tried n passes gives refuses xs (Ok v) h m = all_pass_any n passes gives refuses xs v.items h m
tried n passes gives refuses xs (Err (Stopped index fault)) h m = stops_at n passes gives refuses xs index fault h m
tried n passes gives refuses xs (Err Memory) h m = tt
