-- What is left behind for a module and a text of calls.
use Rattle.std.specs.Prelude.{◌≡◌, ◌++◌, ℕ, Bool, IsTrue, List, Option, Some, None, Result, Ok, Err, IsSomeAnd}
use Rattle.std.specs.Io.KnownBytes.{Keeps, Appends}
use Rattle.wsyntax.specs.Modules.{ModuleShape, BodyShape, module_shape}
use Rattle.wsyntax.specs.Binary.Shell.{Spells}
use Rattle.wsyntax.specs.Validation.Verdict.{Verdict, Accepted, IsVerdict}
use Rattle.wsyntax.specs.Texts.Lines.{verdict_line}
use Rattle.wsyntax.specs.Texts.Calls.{CallsText, TooLong, BadLine, Good as GoodCalls, IsCalls}
use Rattle.wsyntax.specs.Texts.Report.{CallEnd, report_text}
use Rattle.wsyntax.specs.Texts.Answer.{Limits, EndsOf, IsAnswer, calls_line}
use Rattle.accepted_module.specs.declared.accepted.Accepted.{Accepted as AcceptedModule}
use Rattle.accepted_module.specs.Judgement.{shapes_of}
use Rattle.batch_text.specs.declared.fault.CallsFault.{CallsFault}
use Rattle.batch_text.specs.declared.fault.CallsFault.TheVariants as fault
use Rattle.batch.specs.Output.{AppendsFront}
use Rattle.batch.specs.declared.status.Status.{Status}
use Rattle.batch.specs.declared.status.Status.TheVariants.{Good, ModuleRefused, CallsRefused}
use Rattle.batch.specs.declared.status.AnswerFault.{AnswerFault}
use Rattle.batch.specs.declared.status.AnswerFault.TheVariants.{Memory, Write}

-- the answer, where some of the calls ran out of memory
abbrev pub IsSomeAnswer : List ℕ → List ℕ → Limits → List ℕ → Type 0
IsSomeAnswer bytes text l out = (short : ℕ → Bool) × IsAnswer bytes text l (λ n. IsTrue (short n)) out

-- the answer on an accepted module with these bodies, by what the text of calls is
abbrev pub AnswersText : ModuleShape → List BodyShape → CallsText → Limits → (ℕ → Type 0) → List ℕ → Type 0
AnswersText m bodies (GoodCalls calls) l short out = (ends : List CallEnd) × EndsOf m bodies l short 0 calls ends × (out ≡ report_text ends)
AnswersText m bodies bad l short out = out ≡ verdict_line Accepted ++ calls_line bad

-- the answer by what an accepted module holds, whether bytes spell it or not, where some of the calls ran out of memory
abbrev pub IsAnswerFrom : AcceptedModule → List ℕ → Limits → List ℕ → Type 0
IsAnswerFrom a text l out =
    (short : ℕ → Bool) × (c : CallsText) × IsCalls text c × AnswersText (module_shape a.«module») (shapes_of a.bodies.items) c l (λ n. IsTrue (short n)) out

-- the answer to whatever bytes are accepted and spell this module, where some of the calls ran out of memory
abbrev pub IsAnswerOn : AcceptedModule → List ℕ → Limits → List ℕ → Type 0
IsAnswerOn a text l out = (bytes : List ℕ) → IsVerdict bytes Accepted → Spells bytes (module_shape a.«module») (shapes_of a.bodies.items) → IsSomeAnswer bytes text l out

-- what a text of calls is that is refused; out of memory says nothing
abbrev pub refused_text : CallsFault → Option CallsText
refused_text fault.TooLarge = Some TooLong
refused_text (fault.Line k) = Some (BadLine k)
refused_text fault.Memory = None

-- the lines of an accepted module whose calls are refused for this fault
abbrev pub SaysRefused : CallsFault → List ℕ → Type 0
SaysRefused fault text = IsSomeAnd (refused_text fault) (λ c. text ≡ verdict_line Accepted ++ calls_line c)

-- good for a report, else what is refused
abbrev pub calls_status : CallsText → Status
calls_status (GoodCalls calls) = Good
calls_status _ = CallsRefused

abbrev pub StatusBy : List ℕ → Verdict → Status → Type 0
StatusBy text Accepted status = (c : CallsText) × IsCalls text c × (status ≡ calls_status c)
StatusBy text v status = status ≡ ModuleRefused

-- the status of the answer
abbrev pub HasStatus : List ℕ → List ℕ → Status → Type 0
HasStatus bytes text status = (v : Verdict) × IsVerdict bytes v × StatusBy text v status

-- a text with P is written, a beginning of it where a write failed, and nothing when out of memory
abbrev pub Answers : (List ℕ → Type 0) → Option (List ℕ) → Option (List ℕ) → Result Status AnswerFault → Type 0
Answers P old new (Ok status) = (out : List ℕ) × P out × Appends old new out
Answers P old new (Err Write) = (out : List ℕ) × P out × AppendsFront old new out
Answers P old new (Err Memory) = Keeps old new
