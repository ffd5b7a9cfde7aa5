-- What one worker answers.
use Rattle.std.specs.Prelude.{◌≡◌, ℕ, ◌+◌, ◌/◌, ◌<◌, ◌≤◌, nat_lt, nat_le, ◌&&◌, ◌⊎◌, if◌then◌else◌, List, [], ◌∷◌, ◌++◌, Result}
use Rattle.pieces.specs.declared.job.JobFault.{JobFault}
use Rattle.pieces.specs.declared.history.MarkCall.{MarkCall}
use Rattle.pieces.specs.Counting.{total, times}
use Rattle.pieces.specs.History.{is_found, is_lowered}
use Rattle.pieces.specs.Gathered.{Answer, indices, is_fault_at}

module _ {O F : Type 0} where
  -- the index was run, or a smaller one was found on the mark
  abbrev pub IsSettled : List MarkCall → List (Answer O F) → ℕ → Type 0
  IsSettled calls xs i = (0 < times i (indices xs)) ⊎ ((m : ℕ) × (m < i) × (0 < total (is_found m) calls))

  -- What a worker answered that did these pieces of this size. Each of their indices was run once at most, and is settled;
  -- and what the worker lowered, it answers as refused or as Memory.
  pub record Answers (size n : ℕ) (pieces_taken : List ℕ) (calls : List MarkCall) (xs : List (Answer O F)) : Type 0 where
    pub once : (i : ℕ) → times i (indices xs) ≤ times (i / size) pieces_taken
    pub covers : (i : ℕ) → i < n → 0 < times (i / size) pieces_taken → IsSettled calls xs i
    pub lowered : (m : ℕ) → 0 < total (is_lowered m) calls → 0 < total (is_fault_at m) xs

  -- the same while one more piece is done, from its first index up to the index `at`, which is left out
  pub record Answering (size n first at : ℕ) (before : List ℕ) (calls : List MarkCall) (xs : List (Answer O F)) : Type 0 where
    pub once : (i : ℕ) → times i (indices xs) ≤ times (i / size) before + (if nat_le first i && nat_lt i at then 1 else 0)
    pub covers_before : (i : ℕ) → i < n → 0 < times (i / size) before → IsSettled calls xs i
    pub covers : (i : ℕ) → first ≤ i → i < at → IsSettled calls xs i
    pub lowered : (m : ℕ) → 0 < total (is_lowered m) calls → 0 < total (is_fault_at m) xs

  -- One index was run, and its answer is the last; where it is refused or Memory, it was lowered too. Or it was passed over, since a
  -- smaller one was found. Nothing else was lowered, and what was found before is found.
  pub record RunsOne (index : ℕ) (calls : List MarkCall) (xs : List (Answer O F)) (calls' : List MarkCall) (ys : List (Answer O F)) : Type 0 where
    pub kept : (m : ℕ) → 0 < total (is_found m) calls → 0 < total (is_found m) calls'
    pub answered : ((m : ℕ) × (m < index) × (0 < total (is_found m) calls') × (ys ≡ xs)) ⊎ ((r : Result O (JobFault F)) × (ys ≡ xs ++ (index, r) ∷ []))
    pub lowered : (m : ℕ) → 0 < total (is_lowered m) calls' → (0 < total (is_lowered m) calls) ⊎ (0 < total (is_fault_at m) ys)
