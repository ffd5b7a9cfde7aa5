-- The verdicts on many modules.
use denote.Ref.{Bor}
use Rattle.std.specs.Prelude.{◌≡◌, ℕ, List, [], ◌∷◌, Option, Some, None, Result, MatchResult, IfSome, length, slice_get}
use Rattle.wsyntax.specs.Validation.Verdict.{IsVerdict, Accepted}
use Rattle.refusal.specs.Refusals.{verdict_of}
use Rattle.refusal.specs.declared.refusal.Refusal.{Refusal}

-- what a judge may give of these bytes: their verdict; out of memory says nothing of them
abbrev pub IsJudged : List ℕ → Result (Unit {0}) Refusal → Type 0
IsJudged bytes judged = MatchResult judged (λ _. IsVerdict bytes Accepted) (λ r. IfSome (verdict_of r) (IsVerdict bytes))

-- as many verdicts as modules, each on the bytes at its position
abbrev pub AreVerdicts : List (List ℕ) → List (Result (Unit {0}) Refusal) → Type 0
AreVerdicts [] [] = Unit {0}
AreVerdicts [] (v ∷ vs) = ⊥
AreVerdicts (b ∷ bs) [] = ⊥
AreVerdicts (b ∷ bs) (v ∷ vs) = IsJudged b v × AreVerdicts bs vs

-- what one worker gives for module i: its verdict, or nothing
abbrev pub GivesVerdict : List (Bor (List ℕ)) → ℕ → Option (Result (Unit {0}) Refusal) → Type 0
GivesVerdict modules i None = Unit {0}
GivesVerdict modules i (Some judged) = (bytes : Bor (List ℕ)) × (slice_get modules i ≡ Some bytes) × IsJudged bytes.now judged

-- what the workers give for all modules
pub record AreFound (modules : List (Bor (List ℕ))) (found : List (Option (Result (Unit {0}) Refusal))) : Type 0 where
  pub count : length found ≡ length modules
  pub each : (i : ℕ) (out : Option (Result (Unit {0}) Refusal)) → slice_get found i ≡ Some out → GivesVerdict modules i out
