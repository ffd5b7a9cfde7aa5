-- What the program leaves of a request.
use Rattle.std.specs.Prelude.{◌≡◌, ◌≢◌, ◌⊎◌, ℕ, List, [], ◌∷◌, Option, Result, Ok, Err, codes, map, string_bytes}
use Rattle.std.specs.Io.KnownBytes.{Keeps, Appends}
use Rattle.wsyntax.specs.Validation.Verdict.{Verdict, Accepted}
use Rattle.wsyntax.specs.Texts.Lines.{verdict_line}
use Rattle.wstore.specs.Settings.{AreSettings, limits}
use Rattle.wstore.specs.CallLimits.{limits_of}
use Rattle.batch.specs.Output.{AppendsFront}
use Rattle.batch.specs.Report.{status_of}
use Rattle.batch.specs.declared.status.Status.{Status}
use Rattle.batch.specs.declared.status.Status.TheVariants.{Good, ModuleRefused, CallsRefused}
use Rattle.batch.specs.declared.stream_fault.StreamFault.TheVariants as stream
use Rattle.command.specs.Names.{file_names, says_folders, says_json, says_null}
use Rattle.command.specs.Options.{SaysLimits}
use Rattle.command.specs.Requests.{AreInputs, AreOperands, AreStreamed, AsksHelp, AsksVersion, IsInput, IsOperand, IsRequestOf, first_word}
use Rattle.command.specs.declared.request.Request.{Request}
use Rattle.command.specs.declared.request.Request.TheVariants.{Check, CheckAll, CheckListed, Explain, ExplainCalls, Exports, Run, Stream, Text}
use Rattle.program.specs.Sources.{ReadsPaths}
use Rattle.program.specs.Checks.{Checks, Judges}
use Rattle.program.specs.ChecksAll.{BeginsFiles, ChecksListed, ChecksNames, PrintsFiles, input_path, list_limit}
use Rattle.program.specs.Explains.{Explains, ExplainsCalls, IsCallsExplained, IsExplained}
use Rattle.program.specs.Lists.{IsList, Lists}
use Rattle.program.specs.NameLists.{IsSpread, listed_names, name_end}
use Rattle.program.specs.Reads.{IsRead, ReadsInOrder}
use Rattle.program.specs.Endings.{result_status}
use Rattle.program.specs.Runs.{RunsOn, AnswersRead}
use Rattle.program.specs.Streams.{IsStreamedOn, ReadsAccepted, StreamsOn}
use Rattle.program.specs.declared.fault.ProgramFault.{ProgramFault}
use Rattle.program.specs.declared.fault.ProgramFault.TheVariants as fault
use Rattle.program.specs.declared.file_outcome.FileOutcome.{FileOutcome}
use Rattle.program.specs.declared.file_outcome.FileOutcome.TheVariants as file_outcome

-- a text is written, with that status, or a beginning of it where a write failed
abbrev pub Shows : List ℕ → Status → Option (List ℕ) → Option (List ℕ) → Result Status ProgramFault → Type 0
Shows text status old new (Ok ended) = (ended ≡ status) × Appends old new text
Shows text status old new (Err fault.Write) = AppendsFront old new text
Shows text status old new (Err _) = ⊥

-- By the request.

-- what is done for a request, over what paths hold and what they stand for
abbrev pub AnswersRequest : Request → (List ℕ → Option (List ℕ)) → (List ℕ → Option (List (List ℕ))) → Option (List (List ℕ)) → Option (List (List ℕ)) → Option (List ℕ) → Option (List ℕ) → Result Status ProgramFault → Type 0
AnswersRequest (Check path plan) holds lists asked asked' old new r = Checks (holds path.now) old new r
AnswersRequest (CheckAll names folders plan) holds lists asked asked' old new r = ChecksNames (IsSpread folders lists (map (λ n. n.now) names.items)) holds asked asked' old new r
AnswersRequest (CheckListed is_null folders plan) holds lists asked asked' old new r = ChecksListed is_null folders holds lists asked asked' old new r
AnswersRequest (Explain path json) holds lists asked asked' old new r = Explains json (holds path.now) old new r
AnswersRequest (ExplainCalls path calls json) holds lists asked asked' old new r = ExplainsCalls json (holds path.now) (holds calls.now) old new r
AnswersRequest (Exports path) holds lists asked asked' old new r = Lists (holds path.now) old new r
AnswersRequest (Run path calls s plan) holds lists asked asked' old new r = RunsOn (holds path.now) (holds calls.now) (limits_of s) old new r
AnswersRequest (Stream path calls s plan) holds lists asked asked' old new r =
    StreamsOn (holds path.now) (holds calls.now) (limits_of s) old new r × ReadsAccepted (holds path.now) path.now calls.now asked asked' r
AnswersRequest (Text text) holds lists asked asked' old new r = Shows (string_bytes text) Good old new r

-- the paths that a request asks for, in their order; what a check of many files and a stream ask for is said above
abbrev pub AsksFor : Request → Option (List (List ℕ)) → Option (List (List ℕ)) → Result Status ProgramFault → Type 0
AsksFor (Check path plan) old new r = ReadsPaths old new (path.now ∷ [])
AsksFor (CheckAll names folders plan) old new r = Unit {0}
AsksFor (CheckListed is_null folders plan) old new r = Unit {0}
AsksFor (Explain path json) old new r = ReadsPaths old new (path.now ∷ [])
AsksFor (ExplainCalls path calls json) old new r = ReadsInOrder path.now calls.now old new r
AsksFor (Exports path) old new r = ReadsPaths old new (path.now ∷ [])
AsksFor (Run path calls s plan) old new r = ReadsInOrder path.now calls.now old new r
AsksFor (Stream path calls s plan) old new r = Unit {0}
AsksFor (Text text) old new r = ReadsPaths old new []

-- a request of the words is done, and the status is that of what came of it; or the words ask for nothing that can be done, and nothing is asked for or written
abbrev pub AnswersWords : List (List ℕ) → (List ℕ → Option (List ℕ)) → (List ℕ → Option (List (List ℕ))) → Option (List (List ℕ)) → Option (List (List ℕ)) → Option (List ℕ) → Option (List ℕ) → ℕ → Type 0
AnswersWords words holds lists asked asked' old new status =
    ((request : Request) × (r : Result Status ProgramFault) × IsRequestOf words request × AnswersRequest request holds lists asked asked' old new r × AsksFor request asked asked' r × (status ≡ result_status r))
    ⊎ (((status ≡ 64) ⊎ (status ≡ 70)) × ReadsPaths asked asked' [] × Keeps old new)

-- By the status.

-- of `check`: the verdict line of the module is written whose path is a word after the command's name; it alone was asked for
pub record PrintsVerdict (words : List (List ℕ)) (holds : List ℕ → Option (List ℕ)) (asked asked' : Option (List (List ℕ))) (old new : Option (List ℕ)) (v : Verdict) : Type 0 where
  pub command : first_word words ≡ codes "check"
  pub path : List ℕ
  pub named : IsOperand words path
  pub only : ReadsPaths asked asked' (path ∷ [])
  pub judged : Judges (holds path) v
  pub written : Appends old new (verdict_line v)

-- of `explain`: the verdict on an input is told, and why it is so, as an object where the words say it
pub record PrintsExplained (words : List (List ℕ)) (holds : List ℕ → Option (List ℕ)) (asked asked' : Option (List (List ℕ))) (old new : Option (List ℕ)) (v : Verdict) : Type 0 where
  pub command : first_word words ≡ codes "explain"
  pub path : List ℕ
  pub named : IsInput words path
  pub only : ReadsPaths asked asked' (path ∷ [])
  pub text : List ℕ
  pub explained : IsExplained (says_json words) (Judges (holds path)) v text
  pub written : Appends old new text

-- of `exports`: the list of exports of that module is written, or where it is refused its verdict line
pub record PrintsList (words : List (List ℕ)) (holds : List ℕ → Option (List ℕ)) (asked asked' : Option (List (List ℕ))) (old new : Option (List ℕ)) (v : Verdict) : Type 0 where
  pub command : first_word words ≡ codes "exports"
  pub path : List ℕ
  pub named : IsInput words path
  pub only : ReadsPaths asked asked' (path ∷ [])
  pub text : List ℕ
  pub list : IsList (holds path) v text
  pub written : Appends old new text

-- of `explain`: the module whose path is a word after the command's name, and the calls whose path is a word after that, are explained with this status; the module was asked for first, and then the calls
pub record PrintsCallsExplained (words : List (List ℕ)) (holds : List ℕ → Option (List ℕ)) (asked asked' : Option (List (List ℕ))) (old new : Option (List ℕ)) (status : Status) : Type 0 where
  pub command : first_word words ≡ codes "explain"
  pub path : List ℕ
  pub calls : List ℕ
  pub named : AreInputs words path calls
  pub in_order : ReadsPaths asked asked' (path ∷ calls ∷ [])
  pub text : List ℕ
  pub explained : IsCallsExplained (says_json words) (holds path) (holds calls) status text
  pub written : Appends old new text

-- of `run`: the answer with this status is written to the module whose path is a word after the command's name, and to the calls whose path is a word after that, within the limits that the words say; the module was asked for first, and then the calls
pub record PrintsAnswer (words : List (List ℕ)) (holds : List ℕ → Option (List ℕ)) (asked asked' : Option (List (List ℕ))) (old new : Option (List ℕ)) (status : Status) : Type 0 where
  pub command : first_word words ≡ codes "run"
  pub path : List ℕ
  pub calls : List ℕ
  pub named : AreOperands words path calls
  pub in_order : ReadsPaths asked asked' (path ∷ calls ∷ [])
  pub fuel : ℕ
  pub frames : ℕ
  pub pages : ℕ
  pub said : SaysLimits words fuel frames pages
  pub in_range : AreSettings fuel frames pages
  pub answered : AnswersRead (holds path) (holds calls) (limits fuel frames pages) old new (Ok status)

-- of `stream`: the calls are streamed with this status on the module whose path is a word after the command's name, within the limits that the words say; the module was asked for first, and then the calls, where it is accepted
pub record PrintsStream (words : List (List ℕ)) (holds : List ℕ → Option (List ℕ)) (asked asked' : Option (List (List ℕ))) (old new : Option (List ℕ)) (status : Status) : Type 0 where
  pub command : first_word words ≡ codes "stream"
  pub path : List ℕ
  pub calls : List ℕ
  pub named : AreStreamed words path calls
  pub in_order : ReadsAccepted (holds path) path calls asked asked' (Ok status)
  pub fuel : ℕ
  pub frames : ℕ
  pub pages : ℕ
  pub said : SaysLimits words fuel frames pages
  pub in_range : AreSettings fuel frames pages
  pub streamed : StreamsOn (holds path) (holds calls) (limits fuel frames pages) old new (Ok status)

-- the lines of the first calls of such a stream are written, up to a want of memory
pub record PrintsFirstCalls (words : List (List ℕ)) (holds : List ℕ → Option (List ℕ)) (asked asked' : Option (List (List ℕ))) (old new : Option (List ℕ)) : Type 0 where
  pub command : first_word words ≡ codes "stream"
  pub path : List ℕ
  pub calls : List ℕ
  pub named : AreStreamed words path calls
  pub in_order : ReadsAccepted (holds path) path calls asked asked' (Err fault.Memory)
  pub fuel : ℕ
  pub frames : ℕ
  pub pages : ℕ
  pub said : SaysLimits words fuel frames pages
  pub in_range : AreSettings fuel frames pages
  pub streamed : IsStreamedOn (holds path) (holds calls) (limits fuel frames pages) old new (Err stream.Memory)

-- what the words name: these files; or standard input is asked for, and names them
abbrev pub AreNamed : List (List ℕ) → (List ℕ → Option (List ℕ)) → (List ℕ → Option (List (List ℕ))) → Option (List (List ℕ)) → Option (List (List ℕ)) → List (List ℕ) → Type 0
AreNamed words holds lists asked mid files =
    ((mid ≡ asked) × IsSpread (says_folders words) lists (file_names words) files)
    ⊎ ((file_names words ≡ codes "-" ∷ []) × ReadsPaths asked mid (input_path ∷ [])
    × ((bytes : List ℕ) × IsRead list_limit (holds input_path) bytes × IsSpread (says_folders words) lists (listed_names (name_end (says_null words)) [] bytes) files))

-- of `check-all`: the lines of all files that the words name are written, in the order of the names, and this comes of all
pub record PrintsAll (words : List (List ℕ)) (holds : List ℕ → Option (List ℕ)) (lists : List ℕ → Option (List (List ℕ))) (asked asked' : Option (List (List ℕ))) (old new : Option (List ℕ)) (all : FileOutcome) : Type 0 where
  pub command : first_word words ≡ codes "check-all"
  pub mid : Option (List (List ℕ))
  pub files : List (List ℕ)
  pub named : AreNamed words holds lists asked mid files
  pub printed : PrintsFiles holds files mid asked' old new all

-- of `check-all`: whole lines of the first of these files are written
pub record PrintsFirst (words : List (List ℕ)) (holds : List ℕ → Option (List ℕ)) (lists : List ℕ → Option (List (List ℕ))) (asked asked' : Option (List (List ℕ))) (old new : Option (List ℕ)) : Type 0 where
  pub command : first_word words ≡ codes "check-all"
  pub mid : Option (List (List ℕ))
  pub files : List (List ℕ)
  pub named : AreNamed words holds lists asked mid files
  pub begun : BeginsFiles holds files mid asked' (Appends old new)

-- status 0: a word asks for help or the version, or the module is accepted, explained or not, or its exports are listed, or the calls are reported, at once or as a stream, or explained, or each of many modules is accepted
abbrev pub PrintsGood : List (List ℕ) → (List ℕ → Option (List ℕ)) → (List ℕ → Option (List (List ℕ))) → Option (List (List ℕ)) → Option (List (List ℕ)) → Option (List ℕ) → Option (List ℕ) → Type 0
PrintsGood words holds lists asked asked' old new =
    (AsksHelp words ⊎ AsksVersion words) ⊎ (PrintsVerdict words holds asked asked' old new Accepted ⊎ (PrintsExplained words holds asked asked' old new Accepted ⊎ (PrintsAnswer words holds asked asked' old new Good
    ⊎ (PrintsList words holds asked asked' old new Accepted ⊎ (PrintsCallsExplained words holds asked asked' old new Good ⊎ (PrintsAll words holds lists asked asked' old new file_outcome.Accepted ⊎ PrintsStream words holds asked asked' old new Good))))))

-- status 2: the module is refused, of a check or a list, explained or not, with calls or without, or of a run or a stream, or one of many modules
abbrev pub PrintsRefusal : List (List ℕ) → (List ℕ → Option (List ℕ)) → (List ℕ → Option (List (List ℕ))) → Option (List (List ℕ)) → Option (List (List ℕ)) → Option (List ℕ) → Option (List ℕ) → Type 0
PrintsRefusal words holds lists asked asked' old new =
    ((v : Verdict) × (status_of v ≡ ModuleRefused) × (PrintsVerdict words holds asked asked' old new v ⊎ (PrintsExplained words holds asked asked' old new v ⊎ PrintsList words holds asked asked' old new v)))
    ⊎ (PrintsAnswer words holds asked asked' old new ModuleRefused ⊎ (PrintsCallsExplained words holds asked asked' old new ModuleRefused ⊎ (PrintsAll words holds lists asked asked' old new file_outcome.Refused ⊎ PrintsStream words holds asked asked' old new ModuleRefused)))

-- status 3: the calls are refused, of a run, or explained, or of a stream
abbrev pub PrintsCallsRefusal : List (List ℕ) → (List ℕ → Option (List ℕ)) → Option (List (List ℕ)) → Option (List (List ℕ)) → Option (List ℕ) → Option (List ℕ) → Type 0
PrintsCallsRefusal words holds asked asked' old new =
    PrintsAnswer words holds asked asked' old new CallsRefused ⊎ (PrintsCallsExplained words holds asked asked' old new CallsRefused ⊎ PrintsStream words holds asked asked' old new CallsRefused)

-- Without an answer.

-- the command is neither of the two that write while they work
abbrev pub WritesAtOnce : List (List ℕ) → Type 0
WritesAtOnce words = (first_word words ≢ codes "check-all") × (first_word words ≢ codes "stream")
