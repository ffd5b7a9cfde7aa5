-- What stays the same while the first share takes in the passes and the seats of the others.
use Rattle.std.specs.Prelude.{◌≡◌, ℕ, ◌+◌, Bool, true, false, ◌||◌, List, [], ◌∷◌}
use mathlib.Core.List.{IsPrefix}
use Rattle.pieces.specs.declared.views.BagView.{BagView}
use Rattle.pieces.specs.declared.views.MarkView.{MarkView}
use Rattle.pieces.specs.declared.history.MarkCall.{MarkCall}
use Rattle.pieces.specs.declared.share.Share.{Share}
use Rattle.pieces.specs.Counting.{total, times}
use Rattle.pieces.specs.History.{EachBegins}
use Rattle.pieces.specs.Shares.{bag_view_of, taken, own_calls, seen, bag_parts, mark_parts, EachShare}

-- whether one of these shares has met an end mark
abbrev pub any_view_met : List Share → Bool
any_view_met [] = false
any_view_met (s ∷ ss) = (bag_view_of s.access).met || any_view_met ss

-- the views v and n, with those of the shares ss, know what v' and n' knew with those of ss'
pub record Absorbs (v : BagView) (n : MarkView) (ss : List Share) (v' : BagView) (n' : MarkView) (ss' : List Share) : Type 0 where
  pub bag_parts : v.parts + total bag_parts ss ≡ v'.parts + total bag_parts ss'
  pub mark_parts : n.parts + total mark_parts ss ≡ n'.parts + total mark_parts ss'
  pub made : v.made ≡ v'.made
  pub taken : (x : ℕ) → times x v.taken + total (λ s. times x (taken s)) ss ≡ times x v'.taken + total (λ s. times x (taken s)) ss'
  pub met : v'.met || any_view_met ss' ≡ true → v.met || any_view_met ss ≡ true
  pub calls : (h : MarkCall → ℕ) → total h n.made + total (λ s. total h (own_calls s)) ss ≡ total h n'.made + total (λ s. total h (own_calls s)) ss'
  pub seen : (log : List MarkCall) → IsPrefix n.seen log → EachBegins n.others log → EachShare (λ s. IsPrefix (seen s) log) ss
      → IsPrefix n'.seen log × EachBegins n'.others log × EachShare (λ s. IsPrefix (seen s) log) ss'
