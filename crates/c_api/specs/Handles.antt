-- What stands behind a handle.
use Rattle.std.specs.Prelude.{ℕ, List}
use Rattle.wsyntax.specs.Validation.Verdict.{Accepted, IsVerdict}
use Rattle.wsyntax.specs.Texts.Answer.{Limits}
use Rattle.accepted_module.specs.Kept.{IsAcceptedFrom}
use Rattle.accepted_module.specs.declared.accepted.Accepted.{Accepted as AcceptedModule}
use Rattle.batch.specs.Answers.{IsSomeAnswer, HasStatus}
use Rattle.batch.specs.declared.status.Status.{Status}

-- what is kept of bytes that are accepted
abbrev pub IsOfBytes : AcceptedModule → Type 0
IsOfBytes a = (bytes : List ℕ) × IsVerdict bytes Accepted × IsAcceptedFrom bytes a

-- an answer to some module, calls and limits, and its status
abbrev pub IsAnswered : List ℕ → Status → Type 0
IsAnswered text status = (bytes : List ℕ) × (calls : List ℕ) × (l : Limits) × IsSomeAnswer bytes calls l text × HasStatus bytes calls status
