-- The rule of the deque: what it holds, and what the shares took.
use Rattle.std.specs.Prelude.{◌≡◌, ℕ, zero, suc, ◌+◌, ◌-◌, ◌<◌, ◌≤◌, ◌||◌, Bool, true, false, List, [], ◌∷◌, ◌++◌}
use mathlib.Core.Option.{some}
use lib.ListN.{get_elem?}
use Rattle.pieces.specs.declared.task.Task.{Task}
use Rattle.pieces.specs.declared.task.Task.TheVariants.{Piece, End}
use Rattle.pieces.specs.declared.views.BagView.{BagView}
use Rattle.pieces.specs.Counting.{total, times, once_below}

-- what a share knows of the deque, of these parts
abbrev pub bag_view : ℕ → ℕ → ℕ → Bool → List ℕ → BagView
bag_view parts owed made met taken = record { parts = parts; owed = owed; made = made; met = met; taken = taken }

-- n end marks
abbrev pub ends : ℕ → List Task
ends zero = []
ends (suc n) = End ∷ ends n

-- n pieces from the position k on, and then e end marks
abbrev pub tasks : ℕ → ℕ → ℕ → List Task
tasks k zero e = ends e
tasks k (suc n) e = Piece k ∷ tasks (suc k) n e

-- What a pass knows where `next` is the position of the next piece and `left` pieces are left: how many pieces there are;
-- that none is left where it has met an end mark; and a pass with no part has taken nothing, and takes nothing.
pub record FitsDeque (next left : ℕ) (v : BagView) : Type 0 where
  pub made : 0 < v.parts → v.made ≡ next + left
  pub met : v.met ≡ true → left ≡ 0
  pub idle : v.parts ≡ 0 → (v.owed ≡ 0) × (v.met ≡ false) × (v.taken ≡ [])

-- The deque holds the pieces from some position on, in order, and then as many end marks as the passes may still take.
-- Each piece before that position was taken once, and no other.
pub record IsInOrder (items : List Task) (views : List BagView) : Type 0 where
  pub next : ℕ
  pub left : ℕ
  pub holds : items ≡ tasks next left (total (λ v. v.owed) views)
  pub parts : total (λ v. v.parts) views ≡ 64
  pub once : (x : ℕ) → total (λ v. times x v.taken) views ≡ once_below next x
  pub fits : (port : ℕ) (v : BagView) → get_elem? views port ≡ some v → FitsDeque next left v

-- what a push of a piece tells
abbrev pub Adds : BagView → List Task → BagView → Type 0
Adds v xs w = w ≡ bag_view v.parts v.owed (v.made + 1) v.met v.taken

-- what a push of an end mark tells
abbrev pub AddsEnd : BagView → List Task → BagView → Type 0
AddsEnd v xs w = w ≡ bag_view v.parts (v.owed + 1) v.made v.met v.taken

-- what the taking of a piece or of an end mark tells
abbrev pub Took : BagView → List Task → BagView → Type 0
Took v [] w = Unit {0}
Took v (Piece x ∷ xs) w = (w ≡ bag_view v.parts v.owed v.made v.met (v.taken ++ x ∷ [])) × (x < v.made)
Took v (End ∷ xs) w = w ≡ bag_view v.parts (v.owed - 1) v.made true v.taken

-- what the owner keeps where it gives a part and an end mark
abbrev pub kept_bag_view : BagView → BagView
kept_bag_view v = bag_view (v.parts - 1) (v.owed - 1) v.made v.met v.taken

-- what a new share has: one part, and one end mark to take
abbrev pub given_bag_view : BagView → BagView
given_bag_view v = bag_view 1 1 v.made false []

-- two passes as one
abbrev pub joined_bag_view : BagView → BagView → BagView
joined_bag_view v w = bag_view (v.parts + w.parts) (v.owed + w.owed) v.made (v.met || w.met) (v.taken ++ w.taken)

-- what a pass with all parts knows: the pieces before some position were taken, each once, and all of them where an end mark was met
abbrev pub KnowsPieces : BagView → Type 0
KnowsPieces v = (next : ℕ) × (next ≤ v.made) × ((x : ℕ) → times x v.taken ≡ once_below next x) × (v.met ≡ true → next ≡ v.made)
