-- The status that the program ends with.
use Rattle.std.specs.Prelude.{◌≡◌, ◌⊎◌, ℕ, Result, Ok, Err}
use Rattle.batch.specs.declared.status.Status.{Status}
use Rattle.batch.specs.declared.status.Status.TheVariants.{Good, ModuleRefused, CallsRefused}
use Rattle.batch.specs.declared.status.AnswerFault.{AnswerFault}
use Rattle.batch.specs.declared.status.AnswerFault.TheVariants as answer
use Rattle.command.specs.declared.fault.WordsFault.{WordsFault}
use Rattle.command.specs.declared.fault.WordsFault.TheVariants as words
use Rattle.program.specs.declared.fault.ProgramFault.{ProgramFault}
use Rattle.program.specs.declared.fault.ProgramFault.TheVariants as fault

-- of an answer
abbrev pub answer_status : Status → ℕ
answer_status Good = 0
answer_status ModuleRefused = 2
answer_status CallsRefused = 3

-- where the words ask for nothing that can be done
abbrev pub fault_of : WordsFault → ProgramFault
fault_of (words.Usage text) = fault.Usage text
fault_of words.Memory = fault.Memory

-- where there is no answer
abbrev pub fault_status : ProgramFault → ℕ
fault_status (fault.Usage text) = 64
fault_status fault.Names = 64
fault_status (fault.Unread path reason) = 74
fault_status fault.SomeUnread = 74
fault_status fault.Write = 74
fault_status fault.Memory = 70

-- what is told of an answer: after one that was written whole a flush may fail
abbrev pub EndsAs : Result Status AnswerFault → Result Status ProgramFault → Type 0
EndsAs (Ok status) r = (r ≡ Ok status) ⊎ (r ≡ Err fault.Write)
EndsAs (Err answer.Write) r = r ≡ Err fault.Write
EndsAs (Err answer.Memory) r = r ≡ Err fault.Memory

-- of what came of a request
abbrev pub result_status : Result Status ProgramFault → ℕ
result_status (Ok status) = answer_status status
result_status (Err f) = fault_status f

-- accepted, reported or shown; module refused; calls refused; no command; no memory; no file or no write
abbrev pub IsStatus : ℕ → Type 0
IsStatus n = (n ≡ 0) ⊎ ((n ≡ 2) ⊎ ((n ≡ 3) ⊎ ((n ≡ 64) ⊎ ((n ≡ 70) ⊎ (n ≡ 74)))))
