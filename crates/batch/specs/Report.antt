-- What the report on a module leaves behind.
use Rattle.std.specs.Prelude.{◌≡◌, ℕ, List, Option, Some, Result, Ok, Err}
use Rattle.std.specs.Io.KnownBytes.{Keeps, Appends}
use Rattle.wsyntax.specs.Validation.Verdict.{Verdict, Accepted}
use Rattle.wsyntax.specs.Texts.Lines.{verdict_line}
use Rattle.refusal.specs.declared.refusal.Refusal.{Refusal}
use Rattle.refusal.specs.Refusals.{verdict_of}
use Rattle.batch.specs.Output.{AppendsFront}
use Rattle.batch.specs.declared.status.Status.{Status}
use Rattle.batch.specs.declared.status.Status.TheVariants.{Good, ModuleRefused}
use Rattle.batch.specs.declared.status.AnswerFault.{AnswerFault}
use Rattle.batch.specs.declared.status.AnswerFault.TheVariants.{Memory, Write}

-- the verdict that the judge gives; out of memory gives none
abbrev pub given_verdict : {U : Type 0} → Result U Refusal → Option Verdict
given_verdict (Ok _) = Some Accepted
given_verdict (Err refusal) = verdict_of refusal

-- good exactly for an accepted module
abbrev pub status_of : Verdict → Status
status_of Accepted = Good
status_of _ = ModuleRefused

-- the line of a verdict with P
abbrev pub IsLineOf : (Verdict → Type 0) → List ℕ → Type 0
IsLineOf P line = (v : Verdict) × P v × (line ≡ verdict_line v)

-- the line of a verdict with P is written, a beginning of it where a write failed, and nothing when out of memory
abbrev pub Reports : (Verdict → Type 0) → Option (List ℕ) → Option (List ℕ) → Result Status AnswerFault → Type 0
Reports P old new (Ok status) = (v : Verdict) × P v × (status ≡ status_of v) × Appends old new (verdict_line v)
Reports P old new (Err Write) = (v : Verdict) × P v × AppendsFront old new (verdict_line v)
Reports P old new (Err Memory) = Keeps old new
