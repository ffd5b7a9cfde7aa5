-- What all workers answer together.
-- No index comes twice, and none is passed over without a smaller refusal.
use Rattle.std.specs.Prelude.{ℕ, ◌<◌, ◌==◌, ◌⊎◌, if◌then◌else◌, slice_index_or, All, List, map, length, Result, Ok, Err, MatchResult}
use Rattle.pieces.specs.declared.job.JobFault.{JobFault}
use Rattle.pieces.specs.Counting.{total, times}
use Rattle.pieces.specs.Faults.{AllowsFault}

-- an index and its answer
abbrev pub Answer : Type 0 → Type 0 → Type 0
Answer O F = ℕ × Result O (JobFault F)

module _ {O F : Type 0} where
  abbrev pub indices : List (Answer O F) → List ℕ
  indices xs = map (λ a. a.0) xs

  -- 1 where the answer is of this index, and where it is a fault besides
  abbrev pub is_at : ℕ → Answer O F → ℕ
  is_at i a = if a.0 == i then 1 else 0

  abbrev pub fault_count : ℕ → ℕ → Result O (JobFault F) → ℕ
  fault_count i k (Ok out) = 0
  fault_count i k (Err e) = if k == i then 1 else 0

  abbrev pub is_fault_at : ℕ → Answer O F → ℕ
  is_fault_at i a = fault_count i a.0 a.1

  -- the index stands there, or it is greater than one that stands there as refused or as Memory
  abbrev pub Covers : List (Answer O F) → ℕ → Type 0
  Covers xs i = (0 < times i (indices xs)) ⊎ ((m : ℕ) × (m < i) × (0 < total (is_fault_at m) xs))

  -- the answer is of an index below n, and one that the meaning allows
  abbrev pub Allowed : (ℕ → Type 0) → (ℕ → O → Type 0) → (ℕ → F → Type 0) → ℕ → Answer O F → Type 0
  Allowed passes gives refuses n a =
      (a.0 < n) × MatchResult a.1 (λ out. passes a.0 × gives a.0 out) (AllowsFault (refuses a.0))

  -- the indices rise
  abbrev pub Rises : List (Answer O F) → Type 0
  Rises xs = (i j : ℕ) (d : Answer O F) → i < j → j < length xs → (slice_index_or xs i d).0 < (slice_index_or xs j d).0

  -- Their answers in rising order of index, so that none stands there twice; each as the meaning allows; and each index below n stands
  -- there, or is greater than one that stands there as refused or as Memory.
  pub record Gathers (n : ℕ) (passes : ℕ → Type 0) (gives : ℕ → O → Type 0) (refuses : ℕ → F → Type 0) (xs : List (Answer O F)) : Type 0 where
    pub rises : Rises xs
    pub allowed : All (Allowed passes gives refuses n) xs
    pub covers : (i : ℕ) → i < n → Covers xs i
