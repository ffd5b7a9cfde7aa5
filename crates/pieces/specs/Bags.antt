-- What a clause says of a bag and a mark.
use Rattle.std.specs.Prelude.{ℕ, List}
use Rattle.std.specs.Arc.{arc_value}
use Rattle.atomic_table.specs.Seated.{TableId}
use Rattle.crossbeam_deque.specs.Handles.{stealer_deque}
use Rattle.pieces.specs.declared.bag.Bag.{Bag}
use Rattle.pieces.specs.declared.mark.Mark.{Mark}
use Rattle.pieces.specs.declared.share.Share.{Share}
use Rattle.pieces.specs.Cuts.{pieces}
use Rattle.pieces.specs.Shares.{DequeId, IsIn, IsOn, IsCrew}

-- the deque of a bag, how many pieces it began with, and the word of a mark
abbrev pub deque_of : Bag → DequeId
deque_of b = stealer_deque b.stealer

-- how many pieces a bag has
abbrev pub count_in : Bag → ℕ
count_in b = pieces b.n b.size

-- which table the mark's word lies in
abbrev pub word_id : Mark → TableId
word_id m = (arc_value m.table).shared.table_id

-- the share was made with this bag, and with this mark
abbrev pub IsShareOf : Bag → Share → Type 0
IsShareOf b s = IsIn (deque_of b) (count_in b) s

-- the share is one of this mark
abbrev pub HasSeatAt : Mark → Share → Type 0
HasSeatAt m s = IsOn (word_id m) s

-- all the shares that were made with this bag and this mark
abbrev pub AreSharesOf : Bag → Mark → List Share → Type 0
AreSharesOf b m shares = IsCrew (deque_of b) (count_in b) (word_id m) shares
