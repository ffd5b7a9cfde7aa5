-- What is answered for a module and a text of calls (`IsVerdict`, `IsAnswer`), for the shortest module of all.
use Rattle.std.specs.Prelude.{ℕ, List, [], ◌∷◌, codes}
use Rattle.wsyntax.specs.Binary.Shell.{header}
use Rattle.wsyntax.specs.Validation.Verdict.{Accepted, Malformed, IsVerdict}
use Rattle.wsyntax.specs.Texts.Answer.{Limits, IsAnswer}

-- limits, of which no call makes use
abbrev pub some_limits : Limits
some_limits = record { fuel = 10; frames = 1; pages = 1 }

-- the answer for these bytes and this text, where memory was there
abbrev pub Answered : List ℕ → List ℕ → List ℕ → Type 0
Answered bytes text out = IsAnswer bytes text some_limits (λ n. ⊥) out

-- answers to whole inputs, computed
pub record AnswerExamples : Type 0 where
  -- the header alone spells the module without sections, which breaks no rule
  pub header_alone : IsVerdict header Accepted
  -- no bytes spell no module
  pub no_bytes : IsVerdict [] Malformed
  -- nor does a header of another version
  pub other_version : IsVerdict (0x00 ∷ 0x61 ∷ 0x73 ∷ 0x6D ∷ 0x02 ∷ 0x00 ∷ 0x00 ∷ 0x00 ∷ []) Malformed
  -- of a refused module nothing is said but why, whatever the text of calls is
  pub refused : Answered [] (codes "f") (codes "refused malformed\n")
  -- of an accepted one the first bad line is told
  pub bad_calls : Answered header (codes "f") (codes "accepted\ncalls line 1 refused\n")
  -- no calls
  pub no_calls : Answered header [] (codes "total 0 values 0 traps 0 exhausted 0 refused 0 no-memory 0 fuel 0\n")
  -- a call of a module that exports nothing
  pub no_export : Answered header (codes "f\n") (codes "0 no-export\ntotal 1 values 0 traps 0 exhausted 0 refused 1 no-memory 0 fuel 0\n")
