-- What a check of a module leaves.
use Rattle.std.specs.Prelude.{ℕ, List, Option, Result, Ok, Err}
use Rattle.std.specs.Io.KnownBytes.{Keeps}
use Rattle.wsyntax.specs.Binary.Shell.{module_limit}
use Rattle.wsyntax.specs.Validation.Verdict.{Verdict, IsVerdict}
use Rattle.batch.specs.Report.{Reports}
use Rattle.batch.specs.declared.status.Status.{Status}
use Rattle.batch.specs.declared.status.AnswerFault.TheVariants as answer
use Rattle.program.specs.Reads.{IsRead}
use Rattle.program.specs.declared.fault.ProgramFault.{ProgramFault}
use Rattle.program.specs.declared.fault.ProgramFault.TheVariants as fault

-- the verdict on what is read of a path that holds this
pub record Judges (held : Option (List ℕ)) (v : Verdict) : Type 0 where
  pub bytes : List ℕ
  pub read : IsRead module_limit held bytes
  pub verdict : IsVerdict bytes v

-- a check of a path that holds this reports its verdict; where there is none, nothing is written
abbrev pub Checks : Option (List ℕ) → Option (List ℕ) → Option (List ℕ) → Result Status ProgramFault → Type 0
Checks held old new (Ok status) = Reports (Judges held) old new (Ok status)
Checks held old new (Err fault.Write) = Reports (Judges held) old new (Err answer.Write)
Checks held old new (Err _) = Keeps old new
