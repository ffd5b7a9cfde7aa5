-- The first item of a list that is not right, as the rules give it.
use Rattle.std.specs.Prelude.{◌≡◌, ℕ, List, take, Option, Some, slice_get, MatchOption}
use Rattle.std.specs.List.{All}

-- the first item of a list that is not right
pub record IsFirst {X : Type 0} (IsRight : X → Type 0) (xs : List X) (i : ℕ) (x : X) : Type 0 where
  pub there : slice_get xs i ≡ Some x
  pub wrong : IsRight x → ⊥
  pub before : All IsRight (take i xs)

-- what is found is the first that is not right, with its position; where nothing is found, each is right
abbrev pub GivesFirst : {X : Type 0} → (X → Type 0) → List X → Option (ℕ × X) → Type 0
GivesFirst IsRight xs found = MatchOption found (All IsRight xs) (λ x. IsFirst IsRight xs x.0 x.1)

-- of what the items stand for
abbrev pub GivesFirstOf : {X Y : Type 0} → (X → Y) → (Y → Type 0) → List Y → Option (ℕ × X) → Type 0
GivesFirstOf shape IsRight ys found = MatchOption found (All IsRight ys) (λ x. IsFirst IsRight ys x.0 (shape x.1))
