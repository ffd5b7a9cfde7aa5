-- What a stream of calls leaves.
use Rattle.std.specs.Prelude.{◌≡◌, ◌⊎◌, ℕ, List, [], ◌∷◌, Option, Result, Ok, Err, IfSome}
use Rattle.std.specs.Io.KnownBytes.{Keeps}
use Rattle.wsyntax.specs.Binary.Shell.{module_limit}
use Rattle.wsyntax.specs.Validation.Verdict.{Verdict, Accepted, IsVerdict}
use Rattle.wsyntax.specs.Texts.Answer.{Limits}
use Rattle.accepted_module.specs.Kept.{IsAcceptedFrom}
use Rattle.accepted_module.specs.declared.accepted.Accepted.{Accepted as AcceptedModule}
use Rattle.batch.specs.Report.{Reports, status_of}
use Rattle.batch.specs.Streams.{AnswersAsRun, Streams}
use Rattle.batch.specs.declared.status.Status.{Status}
use Rattle.batch.specs.declared.status.Status.TheVariants.{ModuleRefused}
use Rattle.batch.specs.declared.status.AnswerFault.TheVariants as answer
use Rattle.batch.specs.declared.stream_fault.StreamFault.{StreamFault}
use Rattle.batch.specs.declared.stream_fault.StreamFault.TheVariants as stream
use Rattle.program.specs.Checks.{Judges}
use Rattle.program.specs.Reads.{IsRead, IsWant}
use Rattle.program.specs.Sources.{ReadsPaths}
use Rattle.program.specs.declared.fault.ProgramFault.{ProgramFault}
use Rattle.program.specs.declared.fault.ProgramFault.TheVariants as fault
use Rattle.program.specs.declared.source.Reason.TheVariants.{Failed}

-- this verdict refuses the module that is read of its path
abbrev pub Refuses : Option (List ℕ) → Verdict → Type 0
Refuses held v = Judges held v × (status_of v ≡ ModuleRefused)

-- the module that is read of its path is accepted, and the text that the other path holds is streamed on it
pub record IsStreamedOn (held_module held_calls : Option (List ℕ)) (l : Limits) (old new : Option (List ℕ)) (r : Result Status StreamFault) : Type 0 where
  pub bytes : List ℕ
  pub read : IsRead module_limit held_module bytes
  pub verdict : IsVerdict bytes Accepted
  pub judged : AcceptedModule
  pub from : IsAcceptedFrom bytes judged
  pub streamed : IfSome held_calls (λ text. Streams judged l text old new r)
  pub as_run : IfSome held_calls (λ text. AnswersAsRun judged l text old new r)

-- of a refused module its verdict line is written; on an accepted one the calls are streamed, up to a fault; where nothing could be read, nothing is written
abbrev pub StreamsOn : Option (List ℕ) → Option (List ℕ) → Limits → Option (List ℕ) → Option (List ℕ) → Result Status ProgramFault → Type 0
StreamsOn held_module held_calls l old new (Ok ModuleRefused) = Reports (Refuses held_module) old new (Ok ModuleRefused)
StreamsOn held_module held_calls l old new (Ok status) = IsStreamedOn held_module held_calls l old new (Ok status)
StreamsOn held_module held_calls l old new (Err fault.Write) =
    Reports (Refuses held_module) old new (Err answer.Write) ⊎ IsStreamedOn held_module held_calls l old new (Err stream.Write)
StreamsOn held_module held_calls l old new (Err fault.Memory) = Keeps old new ⊎ IsStreamedOn held_module held_calls l old new (Err stream.Memory)
StreamsOn held_module held_calls l old new (Err (fault.Unread path reason)) = Keeps old new ⊎ IsStreamedOn held_module held_calls l old new (Err stream.Read)
StreamsOn held_module held_calls l old new (Err _) = Keeps old new

-- the end before the calls: the module is refused, or it cannot be read, or there is no memory for it
abbrev pub EndsBefore : List ℕ → Result Status ProgramFault → Type 0
EndsBefore path (Ok ModuleRefused) = Unit {0}
EndsBefore path (Ok _) = ⊥
EndsBefore path (Err fault.Write) = Unit {0}
EndsBefore path (Err f) = IsWant path f

-- the end once the calls are asked for
abbrev pub EndsAfter : List ℕ → Result Status ProgramFault → Type 0
EndsAfter calls (Ok ModuleRefused) = ⊥
EndsAfter calls (Ok _) = Unit {0}
EndsAfter calls (Err fault.Write) = Unit {0}
EndsAfter calls (Err f) = IsWant calls f

-- the module is asked for first; then the calls, where it is accepted
abbrev pub ReadsAccepted : Option (List ℕ) → List ℕ → List ℕ → Option (List (List ℕ)) → Option (List (List ℕ)) → Result Status ProgramFault → Type 0
ReadsAccepted held path calls old new r =
    (EndsBefore path r × ReadsPaths old new (path ∷ [])) ⊎ (Judges held Accepted × EndsAfter calls r × ReadsPaths old new (path ∷ calls ∷ []))

-- how the program ends by the end of a stream: a failed read is told of the calls' path
abbrev pub EndsStream : List ℕ → Result Status StreamFault → Result Status ProgramFault → Type 0
EndsStream calls (Ok status) r = r ≡ Ok status
EndsStream calls (Err stream.Write) r = r ≡ Err fault.Write
EndsStream calls (Err stream.Memory) r = r ≡ Err fault.Memory
EndsStream calls (Err stream.Read) (Err (fault.Unread path reason)) = (path.now ≡ calls) × (reason ≡ Failed)
EndsStream calls (Err stream.Read) _ = ⊥
