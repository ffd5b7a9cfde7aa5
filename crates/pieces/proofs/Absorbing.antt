-- Taking the passes and seats of shares into the first one's.
use Rattle.std.proofs.Common.{◌≡◌, ◌||◌, Bool, true, false, List, [], ◌∷◌, ◌++◌, sym, refl, ◌∙◌, arith}
use mathlib.Core.List.{IsPrefix}
use Rattle.pieces.specs.declared.views.BagView.{BagView}
use Rattle.pieces.specs.declared.history.MarkCall.{MarkCall}
use Rattle.pieces.specs.declared.views.MarkView.{MarkView}
use Rattle.pieces.specs.declared.share.Share.{Share}
use Rattle.pieces.specs.Counting.{total, times}
use Rattle.pieces.specs.Deque.{joined_bag_view}
use Rattle.pieces.specs.History.{EachBegins}
use Rattle.pieces.specs.MarkRule.{joined_mark_view}
use Rattle.pieces.specs.Shares.{bag_view_of, taken, own_calls, seen, bag_parts, mark_parts, EachShare}
use Rattle.pieces.specs.Absorbing.{any_view_met, Absorbs}
use Rattle.pieces.proofs.Totals.{total-append}
use Rattle.pieces.proofs.DequeSteps.{times-both}
use Rattle.pieces.proofs.Crews.{EachShare-snoc}

pub EachShare-init : (P : Share → Type 0) (ss : List Share) (s : Share) → EachShare P (ss ++ s ∷ []) → EachShare P ss × P s
EachShare-init P [] s h = (tt, h.0)
EachShare-init P (x ∷ xs) s h = let r = EachShare-init P xs s h.1 in ((h.0, r.0), r.1)

-- a met pass may be taken first
met_first : (v : Bool) (ss : List Share) (s : Share) → (v || any_view_met (ss ++ s ∷ [])) ≡ ((v || (bag_view_of s.access).met) || any_view_met ss)
met_first true ss s = refl
met_first false [] s = refl
met_first false (x ∷ xs) s = both (bag_view_of x.access).met (bag_view_of s.access).met (any_view_met xs) (any_view_met (xs ++ s ∷ [])) (met_first false xs s) where
  both : (a b c d : Bool) → d ≡ (b || c) → (a || d) ≡ (b || (a || c))
  both true true c d e = refl
  both true false c d e = refl
  both false b c d e = e

-- the last share's pass and seat are taken in
pub absorbs_one : (v : BagView) (n : MarkView) (ss : List Share) (s : Share) (v' : BagView) (n' : MarkView) (ss' : List Share) → Absorbs v n (ss ++ s ∷ []) v' n' ss' → Absorbs (joined_bag_view v (bag_view_of s.access)) (joined_mark_view n s.seat.me.0) ss v' n' ss'
absorbs_one v n ss s v' n' ss' h = record {
  bag_parts = let a = total-append bag_parts ss (s ∷ []) in let p = h.bag_parts in omega arith;
  mark_parts = let a = total-append mark_parts ss (s ∷ []) in let p = h.mark_parts in omega arith;
  made = h.made;
  taken = λ x. let a = total-append (λ (t : Share). times x (taken t)) ss (s ∷ []) in let b = times-both x v.taken (taken s) in let p = h.taken x in omega arith;
  met = λ p. sym (met_first v.met ss s) ∙ h.met p;
  calls = λ f. let a = total-append (λ (t : Share). total f (own_calls t)) ss (s ∷ []) in let b = total-append f n.made (own_calls s) in let p = h.calls f in omega arith;
  seen = λ log a b c. h.seen log a (front n.others s.seat.me.0.seen s.seat.me.0.others log b).0 (EachShare-snoc (λ t. IsPrefix (seen t) log) ss s c (front n.others s.seat.me.0.seen s.seat.me.0.others log b).1);
} where
  front : (xs : List (List MarkCall)) (y : List MarkCall) (ys : List (List MarkCall)) (log : List MarkCall) → EachBegins (xs ++ y ∷ ys) log → EachBegins xs log × IsPrefix y log
  front [] y ys log e = (tt, e.0)
  front (x ∷ xs) y ys log e = let r = front xs y ys log e.1 in ((e.0, r.0), r.1)
