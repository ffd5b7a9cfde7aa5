-- Calls that are answered while they are read.
use Rattle.std.specs.Prelude.{◌≡◌, ◌≢◌, ◌⊎◌, ℕ, suc, ◌+◌, ◌<◌, ◌≤◌, Bool, true, false, IsTrue, List, [], ◌∷◌, ◌++◌, All, Option, Some, Result, Ok, Err, length, take, flat_map, slice_get}
use Rattle.std.specs.Io.KnownBytes.{Consumes, IsAtEnd, Keeps, Appends}
use Rattle.wsyntax.specs.Modules.{module_shape}
use Rattle.wsyntax.specs.Texts.Words.{newline}
use Rattle.wsyntax.specs.Texts.Calls.{Call, TextLine, Ended, Unended, BadLine, lines_of, calls_limit, line_limit, Says}
use Rattle.wsyntax.specs.Texts.Report.{CallEnd, NoMemory, plus, total_of, call_lines, report_text}
use Rattle.wsyntax.specs.Texts.Answer.{Limits, EndOf, EndsOf, calls_line}
use Rattle.accepted_module.specs.declared.accepted.Accepted.{Accepted}
use Rattle.accepted_module.specs.Judgement.{shapes_of}
use Rattle.batch_text.specs.Calls.{calls_of}
use Rattle.batch_text.specs.declared.call.Call.{Call as Given}
use Rattle.batch.specs.Answers.{IsAnswerFrom}
use Rattle.batch.specs.Output.{AppendsFront}
use Rattle.batch_text.specs.Totals.{tally as counts}
use Rattle.batch.specs.declared.front.Front.{Front}
use Rattle.batch.specs.declared.front.Front.TheVariants as front
use Rattle.batch.specs.declared.rounds.Behind.{Behind}
use Rattle.batch.specs.declared.rounds.Behind.TheVariants as behind
use Rattle.batch.specs.declared.status.Status.{Status}
use Rattle.batch.specs.declared.status.Status.TheVariants.{Good, ModuleRefused, CallsRefused}
use Rattle.batch.specs.declared.stream_fault.StreamFault.{StreamFault}
use Rattle.batch.specs.declared.stream_fault.StreamFault.TheVariants as fault
use Rattle.batch.specs.declared.streaming.LinesSoFar.{LinesSoFar}
use Rattle.batch.specs.declared.streaming.LinesSoFar.TheVariants as lines
use Rattle.batch_text.specs.declared.total.Total.{Total as Tally}

-- What a stream says.

-- the line says this call, and with its newline it has no more bytes than a text of calls may have
abbrev pub SaysShort : TextLine → Call → Type 0
SaysShort (Ended line) c = Says (Ended line) c × (length line < calls_limit)
SaysShort (Unended line) c = ⊥

-- the lines say these calls, one a line, however many there are
abbrev pub SayEach : List TextLine → List Call → Type 0
SayEach [] [] = Unit {0}
SayEach (line ∷ lines) (c ∷ calls) = SaysShort line c × SayEach lines calls
SayEach _ _ = ⊥

-- What is written.

-- the calls end so, where some of them ran out of memory
abbrev pub HaveEnds : Accepted → Limits → List Call → List CallEnd → Type 0
HaveEnds a l calls ends = (short : ℕ → Bool) × EndsOf (module_shape a.«module») (shapes_of a.bodies.items) l (λ n. IsTrue (short n)) 0 calls ends

-- the report of the calls that the text says
pub record IsReport (a : Accepted) (l : Limits) (text out : List ℕ) : Type 0 where
  pub calls : List Call
  pub ends : List CallEnd
  pub said : SayEach (lines_of text) calls
  pub ended : HaveEnds a l calls ends
  pub is : out ≡ report_text ends

-- the lines of the calls before the first bad line, and that this one is refused; lines are counted from 1
pub record IsRefusal (a : Accepted) (l : Limits) (text out : List ℕ) : Type 0 where
  pub position : ℕ
  pub line : TextLine
  pub stands : slice_get (lines_of text) position ≡ Some line
  pub bad : (c : Call) → SaysShort line c → ⊥
  pub calls : List Call
  pub ends : List CallEnd
  pub said : SayEach (take position (lines_of text)) calls
  pub ended : HaveEnds a l calls ends
  pub is : out ≡ call_lines 0 ends ++ calls_line (BadLine (suc position))

-- the lines of the first calls of the text
pub record AreLines (a : Accepted) (l : Limits) (text out : List ℕ) : Type 0 where
  pub count : ℕ
  pub calls : List Call
  pub ends : List CallEnd
  pub said : SayEach (take count (lines_of text)) calls
  pub ended : HaveEnds a l calls ends
  pub is : out ≡ call_lines 0 ends

-- the report of this text of calls is written, or the lines before a bad one and which one that is; where a write fails, a beginning of these, or of the lines of the first calls; where a read fails or memory is wanting, the lines of the first calls
abbrev pub Streams : Accepted → Limits → List ℕ → Option (List ℕ) → Option (List ℕ) → Result Status StreamFault → Type 0
Streams a l text old new (Ok Good) = (out : List ℕ) × IsReport a l text out × Appends old new out
Streams a l text old new (Ok CallsRefused) = (out : List ℕ) × IsRefusal a l text out × Appends old new out
Streams a l text old new (Ok ModuleRefused) = ⊥
Streams a l text old new (Err fault.Write) = (out : List ℕ) × (IsReport a l text out ⊎ (IsRefusal a l text out ⊎ AreLines a l text out)) × AppendsFront old new out
Streams a l text old new (Err _) = (out : List ℕ) × AreLines a l text out × Appends old new out

-- the answer to a text that is no longer than a text of calls may be, where its report is written
abbrev pub AnswersAsRun : Accepted → Limits → List ℕ → Option (List ℕ) → Option (List ℕ) → Result Status StreamFault → Type 0
AnswersAsRun a l text old new (Ok Good) = length text ≤ calls_limit → length (lines_of text) ≤ line_limit → (out : List ℕ) × IsAnswerFrom a text l out × Appends old new out
AnswersAsRun a l text old new _ = Unit {0}

-- Pieces of a text.

-- what a read gives: some bytes of the reader, none where it was interrupted, or its end
abbrev pub GivesPiece : Option (List ℕ) → Option (List ℕ) → List ℕ → Result (Option ℕ) StreamFault → Type 0
GivesPiece old new piece (Ok (Some n)) = (n ≤ length piece) × Consumes old new (take n piece)
GivesPiece old new piece (Ok _) = Consumes old new [] × IsAtEnd new
GivesPiece old new piece (Err fault.Read) = Consumes old new []
GivesPiece old new piece (Err _) = ⊥

-- no newline is in it
abbrev pub IsFree : List ℕ → Type 0
IsFree line = All (λ b. b ≢ 0x0A) line

-- in none of the lines
abbrev pub AreFree : List (List ℕ) → Type 0
AreFree [] = Unit {0}
AreFree (line ∷ lines) = IsFree line × AreFree lines

-- the lines, each ended by a newline
abbrev pub joined : List (List ℕ) → List ℕ
joined lines = flat_map (λ line. line ++ newline) lines

-- the first lines of a text, no more than `most`, end there; none is whole where that is 0
pub record EndsLines (most : ℕ) (text : List ℕ) (end : ℕ) : Type 0 where
  pub within : end ≤ length text
  pub lines : List (List ℕ)
  pub free : AreFree lines
  pub is : take end text ≡ joined lines
  pub few : length lines ≤ most
  pub none : end ≡ 0 → 0 < most → IsFree text

-- whole lines: what stands behind them begins a line
abbrev pub IsWhole : List ℕ → Type 0
IsWhole text = (rest : List ℕ) → lines_of (text ++ rest) ≡ lines_of text ++ lines_of rest

-- the first line is bad, whatever stands behind the text
abbrev pub BeginsBad : List ℕ → Type 0
BeginsBad text = (rest : List ℕ) → (line : TextLine) × (others : List TextLine) × (lines_of (text ++ rest) ≡ line ∷ others) × ((c : Call) → SaysShort line c → ⊥)

-- whole lines that say these calls
pub record IsSaid (text : List ℕ) (calls : List Call) : Type 0 where
  pub whole : IsWhole text
  pub said : SayEach (lines_of text) calls
  pub few : length calls ≤ length text

-- what stands at the front of a text: whole lines that say calls, one at least; a bad line; or no whole line
abbrev pub IsFront : List ℕ → Front → Type 0
IsFront text (front.Calls calls rest) = (first : List ℕ) × (text ≡ first ++ rest.now) × (0 < length first) × IsSaid first (calls_of calls.items)
IsFront text front.Bad = BeginsBad text
IsFront text front.Unended = IsFree text

-- Rounds.

-- it ran out of memory
abbrev pub is_none : CallEnd → Bool
is_none NoMemory = true
is_none _ = false

-- each call ends so
abbrev pub EndEach : Accepted → Limits → List Call → List CallEnd → Type 0
EndEach a l [] [] = Unit {0}
EndEach a l (c ∷ cs) (e ∷ es) = EndOf (module_shape a.«module») (shapes_of a.bodies.items) l (IsTrue (is_none e)) c e × EndEach a l cs es
EndEach a l _ _ = ⊥

-- the calls that ended so are counted
pub record Counts (from to : Tally) (ends : List CallEnd) : Type 0 where
  pub calls : to.calls ≡ from.calls + length ends
  pub tally : counts to ≡ plus (counts from) (total_of ends)

-- calls are run, and their lines written and counted; where a write fails, a beginning of the lines is written
abbrev pub AnswersRound : Accepted → Limits → List Given → Tally → Tally → Option (List ℕ) → Option (List ℕ) → Result Unit StreamFault → Type 0
AnswersRound a l calls from to old new (Ok _) = (ends : List CallEnd) × EndEach a l (calls_of calls) ends × Counts from to ends × Appends old new (call_lines from.calls ends)
AnswersRound a l calls from to old new (Err fault.Write) = (ends : List CallEnd) × EndEach a l (calls_of calls) ends × AppendsFront old new (call_lines from.calls ends)
AnswersRound a l calls from to old new (Err fault.Memory) = Keeps old new
AnswersRound a l calls from to old new (Err fault.Read) = ⊥

-- the calls of whole lines are answered
pub record Advances (a : Accepted) (l : Limits) (text : List ℕ) (from to : Tally) (old new : Option (List ℕ)) : Type 0 where
  pub calls : List Call
  pub ends : List CallEnd
  pub said : IsSaid text calls
  pub ended : EndEach a l calls ends
  pub counted : Counts from to ends
  pub written : Appends old new (call_lines from.calls ends)

-- a beginning of their lines is written
pub record Falls (a : Accepted) (l : Limits) (text : List ℕ) (from : Tally) (old new : Option (List ℕ)) : Type 0 where
  pub calls : List Call
  pub ends : List CallEnd
  pub said : IsSaid text calls
  pub ended : EndEach a l calls ends
  pub written : AppendsFront old new (call_lines from.calls ends)

-- the text begins with whole lines whose calls are answered, up to a bad line
abbrev pub StopsBad : Accepted → Limits → List ℕ → Tally → Tally → Option (List ℕ) → Option (List ℕ) → Type 0
StopsBad a l text from to old new = (first rest : List ℕ) × (text ≡ first ++ rest) × BeginsBad rest × Advances a l first from to old new

-- up to a fault
abbrev pub Stops : Accepted → Limits → List ℕ → Tally → Option (List ℕ) → Option (List ℕ) → StreamFault → Type 0
Stops a l text from old new fault.Write = (first rest : List ℕ) × (text ≡ first ++ rest) × Falls a l first from old new
Stops a l text from old new fault.Memory = (first rest : List ℕ) × (to : Tally) × (text ≡ first ++ rest) × Advances a l first from to old new
Stops a l text from old new fault.Read = ⊥

-- up to the beginning of a line, a bad one, or a fault
abbrev pub Answers : Accepted → Limits → List ℕ → Tally → Tally → Option (List ℕ) → Option (List ℕ) → Result Behind StreamFault → Type 0
Answers a l text from to old new (Ok (behind.Unended rest)) = (first : List ℕ) × (text ≡ first ++ rest.now) × IsFree rest.now × Advances a l first from to old new
Answers a l text from to old new (Ok behind.Bad) = StopsBad a l text from to old new
Answers a l text from to old new (Err f) = Stops a l text from old new f

-- bad where the line that is held is too long
abbrev pub IsHeld : List ℕ → LinesSoFar → Type 0
IsHeld held lines.Good = length held < calls_limit
IsHeld held lines.Bad = calls_limit ≤ length held

-- where they are good, the beginning of a line is held, which is not too long yet
abbrev pub Takes : Accepted → Limits → List ℕ → Tally → Tally → List ℕ → Option (List ℕ) → Option (List ℕ) → Result LinesSoFar StreamFault → Type 0
Takes a l text from to held old new (Ok lines.Good) = (first : List ℕ) × (text ≡ first ++ held) × IsFree held × (length held < calls_limit) × Advances a l first from to old new
Takes a l text from to held old new (Ok lines.Bad) = StopsBad a l text from to old new
Takes a l text from to held old new (Err f) = Stops a l text from old new f

-- a last line is written: with this status, or a beginning of it where a write failed, and nothing when out of memory
abbrev pub EndsWith : List ℕ → Status → Option (List ℕ) → Option (List ℕ) → Result Status StreamFault → Type 0
EndsWith line status old new (Ok ended) = (ended ≡ status) × Appends old new line
EndsWith line status old new (Err fault.Write) = AppendsFront old new line
EndsWith line status old new (Err fault.Memory) = Keeps old new
EndsWith line status old new (Err fault.Read) = ⊥

-- that line says that the one behind those that are counted is bad
abbrev pub RefusesLine : Tally → Option (List ℕ) → Option (List ℕ) → Result Status StreamFault → Type 0
RefusesLine t old new r = EndsWith (calls_line (BadLine (t.calls + 1))) CallsRefused old new r
