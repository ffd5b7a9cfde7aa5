-- What a worker does at one index, and at a piece.
use Rattle.std.proofs.Common.{◌≡◌, ◌≢◌, ℕ, suc, ◌+◌, ◌-◌, ◌*◌, ◌/◌, ◌<◌, ◌≤◌, nat_lt, true, true≢false, List, [], ◌∷◌, ◌++◌, sym, refl, ap, subst, arith, ⊎_elim, ◌⊎◌, inl, inr}
use Rattle.std.specs.Prelude.{if◌then◌else◌, nat_le, ◌&&◌, Option, Some, Result, Ok, Err}
use Rattle.std.specs.Result.{is_err}
use Rattle.std.proofs.lemmas.Bool.Decides.{nat_tests}
use mathlib.Core.Logic.{dite}
use native.Mathlib.Decide.{dec_lt, ℕ_discrete}
use Rattle.pieces.specs.declared.job.JobFault.{JobFault}
use Rattle.pieces.specs.declared.history.MarkCall.{MarkCall}
use Rattle.pieces.specs.declared.history.MarkCall.TheVariants.{Lowered, Found}
use Rattle.pieces.specs.Counting.{total, times}
use Rattle.pieces.specs.Cuts.{pieces, first_of, end_of}
use Rattle.pieces.specs.History.{is_found, is_lowered}
use Rattle.pieces.specs.Gathered.{Answer, indices, fault_count, is_fault_at}
use Rattle.pieces.specs.Working.{IsSettled, Answers, Answering, RunsOne}
use Rattle.std.proofs.Math.Nat.{div-lt_iff_lt-mul, div-mul-le_self, lt-div-mul-add}
use Rattle.std.proofs.Common.{mul-le-mul_right, suc-mul}
use Rattle.pieces.proofs.Totals.{total-append}
use Rattle.pieces.proofs.Counts.{is_one, counted, uncounted, times-indices}
use Rattle.pieces.proofs.DequeSteps.{times_more}

-- 1 where first ≤ i and i < at
abbrev within : ℕ → ℕ → ℕ → ℕ
within first at i = if nat_le first i && nat_lt i at then 1 else 0

within_more : (first at i : ℕ) → first ≤ at → within first (at + 1) i ≡ within first at i + is_one at i
within_more first at i up = grind (arith, nat_tests)

within_in : (first at i : ℕ) → 0 < within first at i → (first ≤ i) × (i < at)
within_in first at i h = grind (arith, nat_tests)

within_most : (first at i : ℕ) → within first at i ≤ 1
within_most first at i = grind (arith, nat_tests)

-- the piece in which an index lies
pub in_piece : (size k i : ℕ) → 0 < size → k * size ≤ i → i < k * size + size → i / size ≡ k
in_piece size k i some low high =
    let up : i / size < suc k = (div-lt_iff_lt-mul {k = size} {x = i} {y = suc k} some).1 (let s = suc-mul k size in omega arith) in
    dite (dec_lt (i / size) k) (λ less. absurd (let b = (div-lt_iff_lt-mul {k = size} {x = i} {y = k} some).0 less in omega arith)) (λ no. omega arith)

pub of_piece : (size k i : ℕ) → 0 < size → i / size ≡ k → (k * size ≤ i) × (i < k * size + size)
of_piece size k i some is = subst (λ (j : ℕ). (j * size ≤ i) × (i < j * size + size)) is (div-mul-le_self i size, lt-div-mul-add {a = i} {b = size} some)

pub first_below : (n size k : ℕ) → 0 < size → k < pieces n size → k * size < n
first_below n size k some below =
    let a = div-mul-le_self (n + size - 1) size in let b : suc k * size ≤ (n + size - 1) / size * size = mul-le-mul_right size below in let c = suc-mul k size in omega arith

pub piece_below : (n size i : ℕ) → 0 < size → i < n → i / size < pieces n size
piece_below n size i some below =
    let a = div-mul-le_self i size in let b = lt-div-mul-add {a = n + size - 1} {b = size} some in
    dite (dec_lt (i / size) (pieces n size)) (λ y. y) (λ no. absurd (let c : (n + size - 1) / size * size ≤ i / size * size = mul-le-mul_right size (omega arith) in omega arith))

module _ {O F : Type 0} where
  -- a smaller index was found on the mark
  pub passed_over : (index least : ℕ) (calls calls' : List MarkCall) (xs : List (Answer O F)) → least < index → calls' ≡ calls ++ Found (Some least) ∷ [] → RunsOne index calls xs calls' xs
  passed_over index least calls calls' xs below is = subst (λ (ds : List MarkCall). RunsOne index calls xs ds xs) (sym is) record {
    kept = λ m more. let a = total-append (is_found m) calls (Found (Some least) ∷ []) in omega arith;
    answered = inl (least, below, (let a = total-append (is_found least) calls (Found (Some least) ∷ []) in let b = counted least least refl in omega arith), refl);
    lowered = λ m more. inl (let a = total-append (is_lowered m) calls (Found (Some least) ∷ []) in omega arith);
  }

  -- the index was run
  pub ran : (index : ℕ) (r : Option ℕ) (a : Result O (JobFault F)) (calls calls' : List MarkCall) (xs ys : List (Answer O F)) → calls' ≡ calls ++ Found r ∷ [] → ys ≡ xs ++ (index, a) ∷ [] → RunsOne index calls xs calls' ys
  ran index r a calls calls' xs ys is out = record {
    kept = λ m more. let e = ap (total (is_found m)) is in let b = total-append (is_found m) calls (Found r ∷ []) in omega arith;
    answered = inr (a, out);
    lowered = λ m more. inl (let e = ap (total (is_lowered m)) is in let b = total-append (is_lowered m) calls (Found r ∷ []) in omega arith);
  }

  err_counted : (m index : ℕ) (a : Result O (JobFault F)) → is_err a ≡ true → index ≡ m → fault_count m index a ≡ 1
  err_counted m index (Ok out) err is = absurd (true≢false (sym err))
  err_counted m index (Err e) err is = counted m index is

  -- it was run, and was refused or gave Memory
  pub ran_lowered : (index : ℕ) (r : Option ℕ) (a : Result O (JobFault F)) (calls calls₁ calls' : List MarkCall) (xs ys : List (Answer O F)) → is_err a ≡ true → calls₁ ≡ calls ++ Found r ∷ []
      → calls' ≡ calls₁ ++ Lowered index ∷ [] → ys ≡ xs ++ (index, a) ∷ [] → RunsOne index calls xs calls' ys
  ran_lowered index r a calls calls₁ calls' xs ys err is is' out = record {
    kept = λ m more. let e = ap (total (is_found m)) is in let b = total-append (is_found m) calls (Found r ∷ []) in
        let e' = ap (total (is_found m)) is' in let b' = total-append (is_found m) calls₁ (Lowered index ∷ []) in omega arith;
    answered = inr (a, out);
    lowered = λ m more. let e = ap (total (is_lowered m)) is in let b = total-append (is_lowered m) calls (Found r ∷ []) in
        let e' = ap (total (is_lowered m)) is' in let b' = total-append (is_lowered m) calls₁ (Lowered index ∷ []) in
        let f = ap (total (is_fault_at m)) out in let g = total-append (is_fault_at m) xs ((index, a) ∷ []) in
        dite (ℕ_discrete index m) (λ same. inr (let one = err_counted m index a err same in omega arith)) (λ other. inl (let none = uncounted m index other in omega arith));
  }

  -- a longer list of answers
  grows : (index : ℕ) (calls calls' : List MarkCall) (xs ys : List (Answer O F)) → RunsOne index calls xs calls' ys → (f : Answer O F → ℕ) → total f xs ≤ total f ys
  grows index calls calls' xs ys h f = ⊎_elim (λ (x : (m : ℕ) × (m < index) × (0 < total (is_found m) calls') × (ys ≡ xs)). let e = ap (total f) x.3 in omega arith)
      (λ (x : (r : Result O (JobFault F)) × (ys ≡ xs ++ (index, r) ∷ [])). let e = ap (total f) x.1 in let a = total-append f xs ((index, x.0) ∷ []) in omega arith) h.answered

  found_still : (index : ℕ) (calls calls' : List MarkCall) (xs ys : List (Answer O F)) → RunsOne index calls xs calls' ys → (i : ℕ) → IsSettled calls xs i → IsSettled calls' ys i
  found_still index calls calls' xs ys h i = ⊎_elim (λ (p : 0 < times i (indices xs)). inl (let g = grows index calls calls' xs ys h (λ a. is_one a.0 i) in let a = times-indices i xs in let b = times-indices i ys in omega arith))
      (λ (x : (m : ℕ) × (m < i) × (0 < total (is_found m) calls)). inr (x.0, x.1, h.kept x.0 x.2))

  once_next : (i index : ℕ) (calls' : List MarkCall) (xs ys : List (Answer O F)) → ((m : ℕ) × (m < index) × (0 < total (is_found m) calls') × (ys ≡ xs)) ⊎ ((r : Result O (JobFault F)) × (ys ≡ xs ++ (index, r) ∷ [])) → times i (indices ys) ≤ times i (indices xs) + is_one index i
  once_next i index calls' xs ys = ⊎_elim (λ (x : (m : ℕ) × (m < index) × (0 < total (is_found m) calls') × (ys ≡ xs)). let e = ap (λ (l : List (Answer O F)). times i (indices l)) x.3 in omega arith)
      (λ (x : (r : Result O (JobFault F)) × (ys ≡ xs ++ (index, r) ∷ [])). let e = ap (total (λ (a : Answer O F). is_one a.0 i)) x.1 in let a = total-append (λ (a : Answer O F). is_one a.0 i) xs ((index, x.0) ∷ []) in
      let b = times-indices i xs in let c = times-indices i ys in omega arith)

  done_here : (index : ℕ) (calls' : List MarkCall) (xs ys : List (Answer O F)) → ((m : ℕ) × (m < index) × (0 < total (is_found m) calls') × (ys ≡ xs)) ⊎ ((r : Result O (JobFault F)) × (ys ≡ xs ++ (index, r) ∷ [])) → IsSettled calls' ys index
  done_here index calls' xs ys = ⊎_elim (λ (x : (m : ℕ) × (m < index) × (0 < total (is_found m) calls') × (ys ≡ xs)). inr (x.0, x.1, x.2))
      (λ (x : (r : Result O (JobFault F)) × (ys ≡ xs ++ (index, r) ∷ [])). inl (let e = ap (total (λ (a : Answer O F). is_one a.0 index)) x.1 in let a = total-append (λ (a : Answer O F). is_one a.0 index) xs ((index, x.0) ∷ []) in
      let one = counted index index refl in let c = times-indices index ys in omega arith))

  -- one index more of the piece
  pub answering_next : (size n first at : ℕ) (before : List ℕ) (calls calls' : List MarkCall) (xs ys : List (Answer O F)) → first ≤ at → Answering size n first at before calls xs → RunsOne at calls xs calls' ys
      → Answering size n first (at + 1) before calls' ys
  answering_next size n first at before calls calls' xs ys up h one = record {
    once = λ i. let a = h.once i in let b = once_next i at calls' xs ys one.answered in let c = within_more first at i up in omega arith;
    covers_before = λ i below taken. found_still at calls calls' xs ys one i (h.covers_before i below taken);
    covers = λ i low high. dite (dec_lt i at) (λ less. found_still at calls calls' xs ys one i (h.covers i low less))
        (λ not_less. let e : at ≡ i = omega arith in subst (IsSettled calls' ys) e (done_here at calls' xs ys one.answered));
    lowered = λ m more. ⊎_elim (λ (p : 0 < total (is_lowered m) calls). let a = h.lowered m p in let g = grows at calls calls' xs ys one (is_fault_at m) in omega arith) (λ (p : 0 < total (is_fault_at m) ys). p) (one.lowered m more);
  }

  -- before the first piece
  pub answers_none : (size n : ℕ) (taken : List ℕ) (calls : List MarkCall) (xs : List (Answer O F)) → taken ≡ [] → calls ≡ [] → xs ≡ [] → Answers size n taken calls xs
  answers_none size n taken calls xs t c x = record {
    once = λ i. let e = ap (λ (l : List (Answer O F)). times i (indices l)) x in omega arith;
    covers = λ i below some. absurd (let e = ap (times (i / size)) t in omega arith);
    lowered = λ m more. absurd (let e = ap (total (is_lowered m)) c in omega arith);
  }

  -- a piece is begun, and a piece is done
  pub piece_begun : (size n first : ℕ) (before : List ℕ) (calls : List MarkCall) (xs : List (Answer O F)) → Answers size n before calls xs → Answering size n first first before calls xs
  piece_begun size n first before calls xs h = record {
    once = λ i. let a = h.once i in omega arith;
    covers_before = h.covers;
    covers = λ i low high. absurd (omega arith);
    lowered = h.lowered;
  }

  pub piece_done : (size n k first end : ℕ) (before after : List ℕ) (calls : List MarkCall) (xs : List (Answer O F)) → 0 < size → first ≡ first_of size k → end ≡ end_of n size k → after ≡ before ++ k ∷ []
      → Answering size n first end before calls xs → Answers size n after calls xs
  piece_done size n k first end before after calls xs some f e is h = record {
    once = λ i. let a = h.once i in let t = ap (times (i / size)) is in let m = times_more (i / size) k before in
        dite (ℕ_discrete k (i / size)) (λ same. let one = counted (i / size) k same in let w = within_most first end i in omega arith)
        (λ other. let none = within_zero i other in omega arith);
    covers = λ i below more. dite (ℕ_discrete k (i / size))
        (λ same. let p = of_piece size k i some (sym same) in h.covers i (omega arith) (omega arith))
        (λ other. h.covers_before i below (let t = ap (times (i / size)) is in let m = times_more (i / size) k before in let none = uncounted (i / size) k other in omega arith));
    lowered = h.lowered;
  } where
    within_zero : (i : ℕ) → k ≢ i / size → within first end i ≡ 0
    within_zero i other = dite (dec_lt 0 (within first end i)) (λ y. absurd (let r = within_in first end i y in other (sym (in_piece size k i some (omega arith) (omega arith))))) (λ no. omega arith)
