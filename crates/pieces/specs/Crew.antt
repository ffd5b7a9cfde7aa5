-- All workers, before and after they run.
use Rattle.std.specs.Prelude.{◌≡◌, ℕ, Bool, true, false, ◌||◌, All, List, [], ◌∷◌, ◌++◌}
use Rattle.crossbeam_utils.specs.Padded.{padded_value}
use Rattle.pieces.specs.declared.bag.Bag.{Bag}
use Rattle.pieces.specs.declared.mark.Mark.{Mark}
use Rattle.pieces.specs.declared.share.Share.{Share}
use Rattle.pieces.specs.declared.member.Member.{Member}
use Rattle.pieces.specs.Bags.{IsShareOf, HasSeatAt}
use Rattle.pieces.specs.Shares.{IsFresh, SameKind, taken, own_calls, bag_parts, mark_parts}
use Rattle.pieces.specs.Gathered.{Answer, Allowed}
use Rattle.pieces.specs.Working.{Answers}

module _ {L O F : Type 0} where
  -- the answers of a worker
  abbrev pub answers_by : Member L O F → List (Answer O F)
  answers_by m = (padded_value m.answers).items

  abbrev pub shares_of : List (Member L O F) → List Share
  shares_of [] = []
  shares_of (m ∷ ms) = m.share ∷ shares_of ms

  abbrev pub locals_of : List (Member L O F) → List L
  locals_of [] = []
  locals_of (m ∷ ms) = m.local ∷ locals_of ms

  abbrev pub answers_of : List (Member L O F) → List (Answer O F)
  answers_of [] = []
  answers_of (m ∷ ms) = answers_by m ++ answers_of ms

  -- no worker has answered yet
  abbrev pub NoneYet : List (Member L O F) → Type 0
  NoneYet [] = Unit {0}
  NoneYet (m ∷ ms) = (answers_by m ≡ []) × NoneYet ms

  abbrev pub any_short : List (Member L O F) → Bool
  any_short [] = false
  any_short (m ∷ ms) = m.short || any_short ms

module _ {L O F : Type 0} (bag : Bag) (mark : Mark) where
  -- a worker that has done nothing yet
  pub record IsReady (belongs : L → Type 0) (m : Member L O F) : Type 0 where
    pub in_bag : IsShareOf bag m.share
    pub at_mark : HasSeatAt mark m.share
    pub fresh : IsFresh m.share
    pub none : answers_by m ≡ []
    pub local : belongs m.local

  -- a worker that has taken pieces until none was left, or that memory was refused
  pub record IsDone (passes : ℕ → Type 0) (gives : ℕ → O → Type 0) (refuses : ℕ → F → Type 0) (m m' : Member L O F) : Type 0 where
    pub in_bag : IsShareOf bag m'.share
    pub at_mark : HasSeatAt mark m'.share
    pub kind : SameKind m.share.access m'.share.access
    pub bag_parts : bag_parts m'.share ≡ bag_parts m.share
    pub mark_parts : mark_parts m'.share ≡ mark_parts m.share
    pub met : m'.short ≡ false → m'.share.met ≡ true
    pub allowed : m'.short ≡ false → All (Allowed passes gives refuses bag.n) (answers_by m')
    pub answers : m'.short ≡ false → Answers bag.size bag.n (taken m'.share) (own_calls m'.share) (answers_by m')
