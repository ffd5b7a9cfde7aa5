-- What all shares did, from what the first one knows once it has taken in the others.
use Rattle.std.proofs.Common.{◌≡◌, ℕ, ◌+◌, ◌<◌, ◌≤◌, ◌||◌, true, List, [], ◌∷◌, map, sym, refl, ap, ◌∙◌, subst, arith}
use Rattle.std.specs.Prelude.{slice_index_or, remove}
use Rattle.std.proofs.lemmas.Bool.Decides.{nat_tests}
use mathlib.Core.List.{IsPrefix}
use Rattle.atomic_table.specs.Seated.{TableId}
use Rattle.pieces.specs.declared.views.BagView.{BagView}
use Rattle.pieces.specs.declared.history.MarkCall.{MarkCall}
use Rattle.pieces.specs.declared.views.MarkView.{MarkView}
use Rattle.pieces.specs.declared.share.Share.{Share}
use Rattle.pieces.specs.Counting.{total, times, once_below}
use Rattle.pieces.specs.Deque.{KnowsPieces}
use Rattle.pieces.specs.History.{EachBegins, is_found, is_lowered}
use Rattle.pieces.specs.MarkRule.{KnowsHistory}
use Rattle.pieces.specs.Shares.{DequeId, bag_view_of, bag_parts, mark_parts, taken, own_calls, seen, EachShare, IsIn, IsOn, IsFirst, IsLed, IsCrew, count_of}
use Rattle.pieces.specs.Ledger.{Log, log_of, ledger, calls, any_met, Settles}
use Rattle.pieces.specs.Absorbing.{any_view_met, Absorbs}
use Rattle.pieces.proofs.Totals.{total-append}
use Rattle.pieces.proofs.DequeSteps.{times-both}
use Rattle.pieces.proofs.Registers.{never_rises}
use Rattle.pieces.proofs.MarkSteps.{found_was_lowered}
use Rattle.pieces.proofs.Counts.{or_false}

pub head_is : (mark : TableId) (ss : List Share) (s : Share) (rest : List Share) → IsLed mark ss → s ≡ slice_index_or ss 0 s → rest ≡ remove ss 0 → ss ≡ s ∷ rest
head_is mark [] s rest led at is = absurd led
head_is mark (x ∷ xs) s rest led at is = λ i. sym at i ∷ sym is i

times-ledger : (x : ℕ) (ss : List Share) → times x (ledger (map log_of ss)) ≡ total (λ s. times x (taken s)) ss
times-ledger x [] = refl
times-ledger x (s ∷ ss) = let h = times-ledger x ss in let a = times-both x (taken s) (ledger (map log_of ss)) in omega arith

total-calls : (f : MarkCall → ℕ) (ss : List Share) → total f (calls (map log_of ss)) ≡ total (λ s. total f (own_calls s)) ss
total-calls f [] = refl
total-calls f (s ∷ ss) = let h = total-calls f ss in let a = total-append f (own_calls s) (calls (map log_of ss)) in omega arith

met-logs : (deque : DequeId) (count : ℕ) (ss : List Share) → EachShare (IsIn deque count) ss → any_met (map log_of ss) ≡ any_view_met ss
met-logs deque count [] h = refl
met-logs deque count (s ∷ ss) h = λ i. h.0.met i || met-logs deque count ss h.1 i

begin-logs : (log : List MarkCall) (ss : List Share) → EachShare (λ s. IsPrefix (seen s) log) ss → EachBegins (map (λ l. l.saw) (map log_of ss)) log
begin-logs log [] h = tt
begin-logs log (s ∷ ss) h = (h.0, begin-logs log ss h.1)

once_most : (next x : ℕ) → once_below next x ≤ 1
once_most next x = grind (arith, nat_tests)

once_in : (next x : ℕ) → 0 < once_below next x → x < next
once_in next x h = grind (arith, nat_tests)

once_all : (next x : ℕ) → x < next → once_below next x ≡ 1
once_all next x h = grind (arith, nat_tests)

settles_led : (deque : DequeId) (count : ℕ) (mark : TableId) (s : Share) (rest : List Share) (v : BagView) (n : MarkView) → IsCrew deque count mark (s ∷ rest)
    → Absorbs v n [] (bag_view_of s.access) s.seat.me.0 rest → KnowsPieces v → KnowsHistory n → Settles (bag_view_of s.access).made (map log_of (s ∷ rest))
settles_led deque count mark s rest v n crew all knows history =
    let logs : List Log = map log_of (s ∷ rest) in
    let next : ℕ = knows.0 in
    let is : (x : ℕ) → times x (ledger logs) ≡ once_below next x = λ x. let a = times-ledger x (s ∷ rest) in let b = all.taken x in let k = knows.2 x in omega arith in
    let each : (h : MarkCall → ℕ) → total h history.log ≡ total h (calls logs) = λ h. let a = total-calls h (s ∷ rest) in let b = all.calls h in let e = history.each h in omega arith in
    let begins = all.seen history.log history.seen history.others tt in
    record {
      once = λ x. let e = is x in let m = once_most next x in omega arith;
      inside = λ x more. let e = is x in let m = once_in next x (let z = is x in omega arith) in let l = knows.1 in let made = all.made in omega arith;
      every = λ met x below.
          let met' : v.met ≡ true = sym (or_false v.met) ∙ all.met (sym (met-logs deque count (s ∷ rest) crew.each_in) ∙ met) in
          let made = all.made in let e = knows.3 met' in is x ∙ once_all next x (omega arith);
      history = record { history = history.log; legal = history.legal; each = each; begins = begin-logs history.log (s ∷ rest) (begins.0, begins.2); falls = never_rises history.log history.legal };
      lowered = λ i found. let a = history.each (is_found i) in let b = each (is_found i) in let c = history.each (is_lowered i) in let d = each (is_lowered i) in
          let w = found_was_lowered i n history (omega arith) in omega arith;
    }

pub settles : (deque : DequeId) (count : ℕ) (mark : TableId) (ss : List Share) (s : Share) (rest : List Share) (v : BagView) (n : MarkView) → IsCrew deque count mark ss → ss ≡ s ∷ rest
    → Absorbs v n [] (bag_view_of s.access) s.seat.me.0 rest → KnowsPieces v → KnowsHistory n → Settles (count_of ss) (map log_of ss)
settles deque count mark ss s rest v n crew is all knows history =
    subst (λ (l : List Share). Settles (count_of l) (map log_of l)) (sym is) (settles_led deque count mark s rest v n (subst (IsCrew deque count mark) is crew) all knows history)

-- the parts of all shares
pub bag_whole : (deque : DequeId) (count : ℕ) (mark : TableId) (ss : List Share) (s : Share) (rest : List Share) → IsCrew deque count mark ss → ss ≡ s ∷ rest → bag_parts s + total bag_parts rest ≡ 64
bag_whole deque count mark ss s rest crew is = sym (ap (total bag_parts) is) ∙ crew.bag_parts_are

pub mark_whole : (deque : DequeId) (count : ℕ) (mark : TableId) (ss : List Share) (s : Share) (rest : List Share) → IsCrew deque count mark ss → ss ≡ s ∷ rest → mark_parts s + total mark_parts rest ≡ 64
mark_whole deque count mark ss s rest crew is = sym (ap (total mark_parts) is) ∙ crew.mark_parts_are

pub first_of_crew : (deque : DequeId) (count : ℕ) (mark : TableId) (ss : List Share) (s : Share) (rest : List Share) → IsCrew deque count mark ss → ss ≡ s ∷ rest → IsFirst mark s.access × IsOn mark s
first_of_crew deque count mark ss s rest crew is = ((subst (IsLed mark) is crew.led).0, (subst (EachShare (IsOn mark)) is crew.each_on).0)
