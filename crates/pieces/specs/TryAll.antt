-- What `try_all` gives.
-- All results in order, or the least refusal.
use Rattle.std.specs.Prelude.{◌≡◌, ℕ, ◌<◌, Some, slice_get, List, [], ◌∷◌, ◌++◌, length, Ok, Err}
use Rattle.pieces.specs.declared.job.JobFault.{JobFault}
use Rattle.pieces.specs.declared.job.JobFault.TheVariants.{Refused}
use Rattle.pieces.specs.declared.trying.TryFault.{TryFault}
use Rattle.pieces.specs.declared.trying.TryFault.TheVariants.{Stopped, Memory}
use Rattle.pieces.specs.Gathered.{Answer}

-- every index below n passes, and its result stands at its position
pub record AllPass {O : Type 0} (n : ℕ) (passes : ℕ → Type 0) (gives : ℕ → O → Type 0) (outs : List O) : Type 0 where
  pub len : length outs ≡ n
  pub each : (i : ℕ) (out : O) → slice_get outs i ≡ Some out → passes i × gives i out

-- the index is refused with this fault, and every smaller one passes; of Memory nothing is said
abbrev pub StopsAt : {F : Type 0} → ℕ → (ℕ → Type 0) → (ℕ → F → Type 0) → TryFault F → Type 0
StopsAt n passes refuses (Stopped index fault) = (index < n) × refuses index fault × ((i : ℕ) → i < index → passes i)
StopsAt n passes refuses Memory = Unit {0}

module _ {O F : Type 0} where
  -- each answer is a result, and these are the results
  abbrev pub Results : List (Answer O F) → List O → Type 0
  Results [] [] = Unit {0}
  Results [] (o ∷ os) = ⊥
  Results (a ∷ xs) [] = ⊥
  Results (a ∷ xs) (o ∷ os) = (a.1 ≡ Ok o) × Results xs os

  -- the first answer that is no result is this one
  abbrev pub FirstFault : List (Answer O F) → ℕ → JobFault F → Type 0
  FirstFault xs index e =
      (before : List (Answer O F)) × (outs : List O) × (after : List (Answer O F)) × (xs ≡ before ++ (index, Err e) ∷ after) × Results before outs

  abbrev pub StopsIn : List (Answer O F) → TryFault F → Type 0
  StopsIn xs (Stopped index fault) = FirstFault xs index (Refused fault)
  StopsIn xs Memory = Unit {0}
