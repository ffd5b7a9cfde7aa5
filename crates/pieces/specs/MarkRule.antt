-- The rule of the mark's word: there is one history of all calls.
use Rattle.std.specs.Prelude.{◌≡◌, ℕ, ◌+◌, ◌-◌, ◌<◌, nat_lt, if◌then◌else◌, Option, Some, None, List, [], ◌∷◌, ◌++◌}
use mathlib.Core.List.{IsPrefix}
use mathlib.Core.Option.{some}
use lib.ListN.{get_elem?}
use Rattle.pieces.specs.declared.history.MarkCall.{MarkCall}
use Rattle.pieces.specs.declared.views.MarkView.{MarkView}
use Rattle.pieces.specs.Counting.{total}
use Rattle.pieces.specs.History.{register, IsLegal, EachBegins}

-- what a share knows of the mark, of these parts
abbrev pub mark_view : ℕ → List MarkCall → List (List MarkCall) → List MarkCall → MarkView
mark_view parts seen others made = record { parts = parts; seen = seen; others = others; made = made }

-- the register in the table's word, which is 2^64 - 1 where nothing was lowered
abbrev pub word_of : Option ℕ → ℕ
word_of None = 18446744073709551615
word_of (Some i) = i

-- what a read of the word gives
abbrev pub reading : ℕ → Option ℕ
reading n = if nat_lt n 4294967296 then Some n else None

-- an index that was lowered is below 2^32
abbrev pub IsSmall : Option ℕ → Type 0
IsSmall None = Unit {0}
IsSmall (Some i) = i < 4294967296

-- the history begins with all that the share has seen, and a seat with no part has made no call
pub record FitsHistory (log : List MarkCall) (v : MarkView) : Type 0 where
  pub seen : IsPrefix v.seen log
  pub others : EachBegins v.others log
  pub idle : v.parts ≡ 0 → v.made ≡ []

-- There is one legal history. It leaves the word as it is, and it has the calls of all seats, each once, however they are weighed.
pub record IsKept (words : List ℕ) (views : List MarkView) : Type 0 where
  pub log : List MarkCall
  pub word : words ≡ word_of (register None log) ∷ []
  pub legal : IsLegal None log
  pub small : IsSmall (register None log)
  pub parts : total (λ v. v.parts) views ≡ 64
  pub each : (h : MarkCall → ℕ) → total h log ≡ total (λ v. total h v.made) views
  pub fits : (seat : ℕ) (v : MarkView) → get_elem? views seat ≡ some v → FitsHistory log v

-- what the first share keeps where it gives a part
abbrev pub kept_mark_view : MarkView → MarkView
kept_mark_view v = mark_view (v.parts - 1) v.seen v.others v.made

-- what a new seat has: one part
abbrev pub given_mark_view : MarkView → MarkView
given_mark_view v = mark_view 1 [] [] []

-- two seats as one
abbrev pub joined_mark_view : MarkView → MarkView → MarkView
joined_mark_view v w = mark_view (v.parts + w.parts) v.seen (v.others ++ w.seen ∷ w.others) (v.made ++ w.made)

-- what a seat with all parts knows: one legal history has all calls, each once, and begins with all that any share has seen
pub record KnowsHistory (v : MarkView) : Type 0 where
  pub log : List MarkCall
  pub legal : IsLegal None log
  pub each : (h : MarkCall → ℕ) → total h log ≡ total h v.made
  pub seen : IsPrefix v.seen log
  pub others : EachBegins v.others log
