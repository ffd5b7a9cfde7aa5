-- What a run of calls leaves.
use Rattle.std.specs.Prelude.{◌≡◌, ℕ, List, Option, Result, Ok, Err}
use Rattle.std.specs.Io.KnownBytes.{Keeps}
use Rattle.wsyntax.specs.Binary.Shell.{module_limit}
use Rattle.wsyntax.specs.Texts.Calls.{calls_limit}
use Rattle.wsyntax.specs.Texts.Answer.{Limits}
use Rattle.batch.specs.Answers.{Answers, IsSomeAnswer, HasStatus}
use Rattle.batch.specs.declared.status.Status.{Status}
use Rattle.batch.specs.declared.status.AnswerFault.{AnswerFault}
use Rattle.batch.specs.declared.status.AnswerFault.TheVariants as answer
use Rattle.program.specs.Reads.{IsRead}
use Rattle.program.specs.declared.fault.ProgramFault.{ProgramFault}
use Rattle.program.specs.declared.fault.ProgramFault.TheVariants as fault

-- the answer to what is read of a module's path and of a path of calls, that hold these, is written: whole, or a beginning of it where a write failed
pub record AnswersRead (held_module held_calls : Option (List ℕ)) (l : Limits) (old new : Option (List ℕ)) (r : Result Status AnswerFault) : Type 0 where
  pub bytes : List ℕ
  pub text : List ℕ
  pub read_module : IsRead module_limit held_module bytes
  pub read_calls : IsRead calls_limit held_calls text
  pub written : Answers (IsSomeAnswer bytes text l) old new r
  pub status : (s : Status) → r ≡ Ok s → HasStatus bytes text s

-- a run answers; where there is no answer, nothing is written
abbrev pub RunsOn : Option (List ℕ) → Option (List ℕ) → Limits → Option (List ℕ) → Option (List ℕ) → Result Status ProgramFault → Type 0
RunsOn held_module held_calls l old new (Ok status) = AnswersRead held_module held_calls l old new (Ok status)
RunsOn held_module held_calls l old new (Err fault.Write) = AnswersRead held_module held_calls l old new (Err answer.Write)
RunsOn held_module held_calls l old new (Err _) = Keeps old new
