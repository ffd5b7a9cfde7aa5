-- What a clause says of a share.
use Rattle.std.specs.Prelude.{◌≡◌, ℕ, ◌<◌, false, List, [], ◌∷◌}
use Rattle.std.specs.Arc.{arc_value}
use Rattle.std.specs.declared.alloc.Global.{Global}
use Rattle.atomic_blocks.specs.Lent.{RowsId}
use Rattle.atomic_table.specs.Seated.{TableId}
use Rattle.crossbeam_deque.specs.Handles.{view, IsPassOf, worker_deque, worker_flavor, worker_view}
use Rattle.pieces.specs.declared.views.BagView.{BagView}
use Rattle.pieces.specs.declared.views.MarkView.{MarkView}
use Rattle.pieces.specs.declared.history.MarkCall.{MarkCall}
use Rattle.pieces.specs.declared.share.Access.{Access}
use Rattle.pieces.specs.declared.share.Access.TheVariants.{Pops, Steals}
use Rattle.pieces.specs.declared.share.Share.{Share}
use Rattle.crossbeam_deque.specs.declared.handles.Worker.{Worker}
use Rattle.pieces.specs.declared.task.Task.{Task}
use Rattle.pieces.specs.declared.bag.BagProtocol.{BagProtocol}
use Rattle.pieces.specs.Counting.{total}
use Rattle.pieces.specs.Deque.{bag_view}
use Rattle.pieces.specs.MarkRule.{mark_view}

-- which deque it is
abbrev pub DequeId : Type 0
DequeId = RowsId × Global

-- what this access knows of the deque
abbrev pub bag_view_of : Access → BagView
bag_view_of (Pops w a) = worker_view w
bag_view_of (Steals p) = view p

-- what this share knows of the mark
abbrev pub mark_view_of : Share → MarkView
mark_view_of s = s.seat.me.0

-- the positions of the pieces that the share took, in order
abbrev pub taken : Share → List ℕ
taken s = (bag_view_of s.access).taken

-- its calls on the mark, in order
abbrev pub own_calls : Share → List MarkCall
own_calls s = s.seat.me.0.made

-- how far the share has seen the history of all calls
abbrev pub seen : Share → List MarkCall
seen s = s.seat.me.0.seen

-- its parts of the right to know the bag's whole history
abbrev pub bag_parts : Share → ℕ
bag_parts s = (bag_view_of s.access).parts

-- its parts of the right to know the mark's whole history
abbrev pub mark_parts : Share → ℕ
mark_parts s = s.seat.me.0.parts

-- access to this deque
abbrev pub IsAccessTo : DequeId → Access → Type 0
IsAccessTo deque (Pops w a) = (worker_deque w ≡ deque) × (worker_flavor w ≡ 0)
IsAccessTo deque (Steals p) = IsPassOf deque p

-- the share is one of this deque, which began with `count` pieces
pub record IsIn (deque : DequeId) (count : ℕ) (s : Share) : Type 0 where
  pub access : IsAccessTo deque s.access
  pub part : 0 < (bag_view_of s.access).parts
  pub owed : s.met ≡ false → 0 < (bag_view_of s.access).owed
  pub made : (bag_view_of s.access).made ≡ count
  pub met : s.met ≡ (bag_view_of s.access).met

-- the share is one of this mark
pub record IsOn (table : TableId) (s : Share) : Type 0 where
  pub seat : s.seat.table_id ≡ table
  pub free : s.seat.me.1 ≡ []
  pub part : 0 < s.seat.me.0.parts

-- the access is the first share's, which keeps the mark's word
abbrev pub IsFirst : TableId → Access → Type 0
IsFirst table (Pops w a) = ((arc_value a).shared.table_id ≡ table) × (table.words ≡ 1)
IsFirst table (Steals p) = ⊥

-- the access steals
abbrev pub IsStealing : Access → Type 0
IsStealing (Pops w a) = ⊥
IsStealing (Steals p) = Unit {0}

-- Taking keeps the kind of an access, and the mark's word in it.
abbrev pub SameKind : Access → Access → Type 0
SameKind (Pops w a) (Pops w' a') = arc_value a' ≡ arc_value a
SameKind (Pops w a) (Steals p) = ⊥
SameKind (Steals p) (Pops w a) = ⊥
SameKind (Steals p) (Steals p') = Unit {0}

-- what a call on the bag leaves as it was
pub record KeepsMark (old new : Share) : Type 0 where
  pub seat : new.seat ≡ old.seat
  pub parts : bag_parts new ≡ bag_parts old
  pub kind : SameKind old.access new.access

-- what a call on the mark leaves as it was
pub record KeepsBag (old new : Share) : Type 0 where
  pub access : new.access ≡ old.access
  pub met : new.met ≡ old.met

-- P of each share
abbrev pub EachShare : (Share → Type 0) → List Share → Type 0
EachShare P [] = Unit {0}
EachShare P (s ∷ ss) = P s × EachShare P ss

-- the first share keeps the mark's word, and the others steal
abbrev pub IsLed : TableId → List Share → Type 0
IsLed table [] = ⊥
IsLed table (s ∷ ss) = IsFirst table s.access × EachShare (λ t. IsStealing t.access) ss

-- these are all the shares of one `open`, of this deque and this mark
pub record IsCrew (deque : DequeId) (count : ℕ) (mark : TableId) (shares : List Share) : Type 0 where
  pub led : IsLed mark shares
  pub each_in : EachShare (IsIn deque count) shares
  pub each_on : EachShare (IsOn mark) shares
  pub bag_parts_are : total bag_parts shares ≡ 64
  pub mark_parts_are : total mark_parts shares ≡ 64

-- these are all the shares of one `open`
abbrev pub IsWhole : List Share → Type 0
IsWhole shares = (deque : DequeId) × (count : ℕ) × (mark : TableId) × IsCrew deque count mark shares

-- how many pieces their bag began with
abbrev pub count_of : List Share → ℕ
count_of [] = 0
count_of (s ∷ ss) = (bag_view_of s.access).made

-- the share has taken nothing, and made no call
pub record IsFresh (s : Share) : Type 0 where
  pub taken : taken s ≡ []
  pub calls : own_calls s ≡ []
  pub met : s.met ≡ false

-- a share that `open` has just made, and that steals
pub record IsNew (deque : DequeId) (count : ℕ) (mark : TableId) (s : Share) : Type 0 where
  pub access : IsAccessTo deque s.access
  pub stealing : IsStealing s.access
  pub bag_view_is : bag_view_of s.access ≡ bag_view 1 1 count false []
  pub seat : s.seat.table_id ≡ mark
  pub me : s.seat.me ≡ (mark_view 1 [] [] [], [])
  pub met : s.met ≡ false

-- a call of the owner keeps which deque it is
abbrev pub SameDeque : Worker Task Global BagView BagProtocol → Worker Task Global BagView BagProtocol → Type 0
SameDeque old new = (worker_deque new ≡ worker_deque old) × (worker_flavor new ≡ worker_flavor old)
