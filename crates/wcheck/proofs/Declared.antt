-- Declared locals, by their runs.
use Rattle.std.proofs.Common.{◌≡◌, ℕ, zero, suc, ◌+◌, ◌<◌, List, ◌++◌, slice_get, Some, refl, ap, arith}
use Rattle.std.specs.Prelude.{replicate}

-- an index in a run
pub in_run : {A : Type 0} (n : ℕ) (c : A) (xs : List A) (k : ℕ) → k < n → slice_get (replicate n c ++ xs) k ≡ Some c
in_run zero c xs k lt = absurd (omega (arith, lt))
in_run (suc n) c xs zero lt = refl
in_run (suc n) c xs (suc k) lt = in_run n c xs k (omega (arith, lt))

-- an index past a run
pub past_run : {A : Type 0} (n : ℕ) (c : A) (xs : List A) (k j : ℕ) → k ≡ n + j → slice_get (replicate n c ++ xs) k ≡ slice_get xs j
past_run zero c xs k j e = let q : k ≡ j = omega (arith, e) in ap (slice_get xs) q
past_run (suc n) c xs zero j e = absurd (omega (arith, e))
past_run (suc n) c xs (suc k) j e = past_run n c xs k j (omega (arith, e))
