-- Calls that are answered while they are read: the report on the whole text is written, or the lines before a bad one or before a fault.
-- It goes by how far the stream is answered (`IsStreaming`): `round_more` adds a round, `stream_more` a piece, `stream_reported` the end.
-- `answer_round` and `answer_lines` of src/rounds.rt cite it, and `take_piece`, `answer_stream` and `stream` of src/streaming.rt.
use denote.Ref.{Bor}
use Rattle.std.proofs.Common.{◌≡◌, ℕ, suc, ◌+◌, ◌-◌, ◌<◌, ◌≤◌, ◌^◌, inl, inr, Bool, false, IsTrue, List, [], ◌∷◌, ◌++◌, Option, Some, None, Result, Ok, Err, length, take, string_bytes, length-append, append_assoc, refl, sym, ap, ◌∙◌, subst, arith}
use Rattle.std.specs.Prelude.{◌*◌, slice_get, IfSome}
use Rattle.std.specs.Io.KnownBytes.{Keeps, Appends, Consumes, IsAtEnd}
use Rattle.std.proofs.KnownBytes.{Appends-nil, Appends-trans, Appends-kept, Consumes-nil, Consumes-trans, Consumes-whole}
use Rattle.std.proofs.lemmas.List.{append-nil, length-map}
use Rattle.wsyntax.specs.Modules.{module_shape}
use Rattle.wsyntax.specs.Texts.Calls.{Call, TextLine, Unended, BadLine, Good as GoodCalls, IsCalls, lines_of, calls_limit}
use Rattle.wsyntax.specs.Texts.Report.{plus, total_of, none, Tally as Counted, CallEnd, call_lines}
use Rattle.wsyntax.specs.Texts.Answer.{Limits, EndOf, EndsOf, calls_line}
use Rattle.accepted_module.specs.declared.accepted.Accepted.{Accepted}
use Rattle.accepted_module.specs.Judgement.{shapes_of}
use Rattle.batch_text.specs.Calls.{call_of, calls_of}
use Rattle.batch_text.specs.Ends.{end_of, ends_of}
use Rattle.batch_text.specs.declared.call.Call.{Call as Given}
use Rattle.batch_text.specs.declared.line.Line.{Line}
use Rattle.batch_text.specs.declared.line.Line.TheVariants as line
use Rattle.batch_text.specs.Parts.{IsPart}
use Rattle.batch_text.specs.declared.part.Part.{Part}
use Rattle.batch_text.specs.Totals.{tally as counts}
use Rattle.wstore.specs.declared.settings.Settings.{Settings}
use Rattle.wstore.specs.CallLimits.{limits_of}
use Rattle.batch.specs.Ends.{is_short, AreEnds}
use Rattle.batch.specs.Output.{AppendsFront}
use Rattle.batch.specs.Streams.{SaysShort, SayEach, HaveEnds, IsReport, IsRefusal, AreLines, IsSaid, is_none, EndEach, Counts, AnswersRound, Answers, Advances, Falls, Stops, StopsBad, IsFree, IsHeld, Takes, EndsWith, RefusesLine, Streams, AnswersAsRun, GivesPiece}
use Rattle.batch_text.specs.Totals.{total_text}
use Rattle.batch.specs.declared.status.Status.{Status}
use Rattle.batch.specs.declared.status.Status.TheVariants.{Good, ModuleRefused, CallsRefused}
use Rattle.batch.specs.declared.rounds.Behind.{Behind}
use Rattle.batch.specs.declared.rounds.Behind.TheVariants as behind
use Rattle.batch.specs.declared.streaming.LinesSoFar.{LinesSoFar}
use Rattle.batch.specs.declared.streaming.LinesSoFar.TheVariants as lines
use Rattle.std.proofs.lemmas.Grind.{common_steps}
use Rattle.batch.specs.declared.stream_fault.StreamFault.{StreamFault}
use Rattle.batch.specs.declared.stream_fault.StreamFault.TheVariants as fault
use Rattle.batch_text.specs.declared.total.Total.{Total as Tally}
use Rattle.batch.proofs.StreamedLines.{nothing_said, both_said, held_long, held_unended, said_many, say_all}
use Rattle.batch.proofs.Tallied.{all_counted, both_counted, none_counts, lines_append}

-- ---- how calls end

-- which calls ran out of memory
none_is_short : (x : Line) → is_short (Some x) ≡ is_none (end_of x)
none_is_short (line.Ran o k) = refl
none_is_short line.NoExport = refl
none_is_short line.NotAFunction = refl
none_is_short line.BadArguments = refl
none_is_short (line.NotStarted r) = refl
none_is_short line.NoMemory = refl

from_zero : (i : ℕ) → 0 + i ≡ i
from_zero i = omega arith

plus_zero : (n : ℕ) → n ≡ n + 0
plus_zero n = omega arith

plus_suc : (n i : ℕ) → suc n + i ≡ n + suc i
plus_suc n i = omega arith

-- the calls from index n on, of which all have these lines
each_from : (a : Accepted) (l : Limits) (all : List Line) (n : ℕ) (calls : List Call) (lines : List Line) → EndsOf (module_shape a.«module») (shapes_of a.bodies.items) l (λ n. IsTrue (is_short (slice_get all n))) n calls (ends_of lines)
    → ((i : ℕ) → slice_get all (n + i) ≡ slice_get lines i) → EndEach a l calls (ends_of lines)
each_from a l all n [] [] h at = tt
each_from a l all n [] (x ∷ xs) h at = absurd h
each_from a l all n (c ∷ cs) [] h at = absurd h
each_from a l all n (c ∷ cs) (x ∷ xs) h at =
    let here : is_short (slice_get all n) ≡ is_none (end_of x) = ap is_short (ap (slice_get all) (plus_zero n) ∙ at 0) ∙ none_is_short x in
    (subst (λ (b : Bool). EndOf (module_shape a.«module») (shapes_of a.bodies.items) l (IsTrue b) c (end_of x)) here h.0, each_from a l all (suc n) cs xs h.1 (λ i. ap (slice_get all) (plus_suc n i) ∙ at (suc i)))

pub each_end : (a : Accepted) (s : Settings) (calls : List Given) (lines : List Line) → AreEnds a s calls lines → EndEach a (limits_of s) (calls_of calls) (ends_of lines)
each_end a s calls lines h = each_from a (limits_of s) lines 0 (calls_of calls) lines h (λ i. ap (slice_get lines) (from_zero i))

both_end : (a : Accepted) (l : Limits) (calls others : List Call) (ends more : List CallEnd) → EndEach a l calls ends → EndEach a l others more → EndEach a l (calls ++ others) (ends ++ more)
both_end a l [] others [] more h g = g
both_end a l [] others (e ∷ ends) more h g = absurd h
both_end a l (c ∷ calls) others [] more h g = absurd h
both_end a l (c ∷ calls) others (e ∷ ends) more h g = (h.0, both_end a l calls others ends more h.1 g)

-- the call of that index ran out of memory
none_at : Option CallEnd → Bool
none_at None = false
none_at (Some e) = is_none e

ends_from : (a : Accepted) (l : Limits) (all : List CallEnd) (n : ℕ) (calls : List Call) (ends : List CallEnd) → EndEach a l calls ends → ((i : ℕ) → slice_get all (n + i) ≡ slice_get ends i)
    → EndsOf (module_shape a.«module») (shapes_of a.bodies.items) l (λ n. IsTrue (none_at (slice_get all n))) n calls ends
unfolding none_at
ends_from a l all n [] [] h at = tt
ends_from a l all n [] (e ∷ es) h at = absurd h
ends_from a l all n (c ∷ cs) [] h at = absurd h
ends_from a l all n (c ∷ cs) (e ∷ es) h at =
    let here : Some e ≡ slice_get all n = sym (ap (slice_get all) (plus_zero n) ∙ at 0) in
    (subst (λ (found : Option CallEnd). EndOf (module_shape a.«module») (shapes_of a.bodies.items) l (IsTrue (none_at found)) c e) here h.0, ends_from a l all (suc n) cs es h.1 (λ i. ap (slice_get all) (plus_suc n i) ∙ at (suc i)))

pub have_ends : (a : Accepted) (l : Limits) (calls : List Call) (ends : List CallEnd) → EndEach a l calls ends → HaveEnds a l calls ends
have_ends a l calls ends h = ((λ n. none_at (slice_get ends n)), ends_from a l ends 0 calls ends h (λ i. ap (slice_get ends) (from_zero i)))

-- ---- one round

as_many : (a : Accepted) (l : Limits) (calls : List Call) (ends : List CallEnd) → EndEach a l calls ends → length ends ≡ length calls
as_many a l [] [] h = refl
as_many a l [] (e ∷ ends) h = absurd h
as_many a l (c ∷ calls) [] h = absurd h
as_many a l (c ∷ calls) (e ∷ ends) h = ap suc (as_many a l calls ends h.1)

-- a line a call
pub line_count : (a : Accepted) (s : Settings) (calls : List Given) (lines : List Line) → AreEnds a s calls lines → length lines ≡ length calls
line_count a s calls lines h = sym (length-map lines end_of) ∙ as_many a (limits_of s) (calls_of calls) (ends_of lines) (each_end a s calls lines h) ∙ length-map calls call_of

-- the text of its lines
pub round_text : (first : ℕ) (lines given : List Line) (p : Part) (text : List ℕ) → given ≡ lines → IsPart first (ends_of given) p → text ≡ string_bytes p.text → text ≡ call_lines first (ends_of lines)
round_text first lines given p text same part is = is ∙ part.lines ∙ ap (λ (l : List Line). call_lines first (ends_of l)) same

-- how many calls it counts
pub part_count : (lines given : List Line) (p : Part) (counted : Tally) (first : ℕ) → given ≡ lines → IsPart first (ends_of given) p → counted ≡ p.total → counted.calls ≡ length lines
part_count lines given p counted first same part is = ap (λ (t : Tally). t.calls) is ∙ part.calls ∙ ap (λ (l : List Line). length (ends_of l)) same ∙ length-map lines end_of

-- its counts
pub round_counts : (from to counted : Tally) (lines given : List Line) (p : Part) → given ≡ lines → IsPart from.calls (ends_of given) p → counted ≡ p.total → to.calls ≡ from.calls + counted.calls → counts to ≡ plus (counts from) (counts counted)
    → Counts from to (ends_of lines)
round_counts from to counted lines given p same part is calls tally = record {
  calls = calls ∙ ap (λ (t : Tally). from.calls + t.calls) is ∙ ap (λ n. from.calls + n) (part.calls ∙ ap (λ (l : List Line). length (ends_of l)) same);
  tally = tally ∙ ap (λ (t : Tally). plus (counts from) (counts t)) is ∙ ap (plus (counts from)) (part.counts ∙ ap (λ (l : List Line). total_of (ends_of l)) same);
}

-- ---- rounds

pub nothing_answered : (a : Accepted) (l : Limits) (from : Tally) (old : Option (List ℕ)) → Advances a l [] from from old old
nothing_answered a l from old = record { calls = []; ends = []; said = nothing_said; ended = tt; counted = none_counts from; written = Appends-nil old }

-- others after them
pub both_answered : (a : Accepted) (l : Limits) (front more : List ℕ) (from mid to : Tally) (old between new : Option (List ℕ)) → Advances a l front from mid old between → Advances a l more mid to between new → Advances a l (front ++ more) from to old new
both_answered a l front more from mid to old between new h g = record {
  calls = h.calls ++ g.calls;
  ends = h.ends ++ g.ends;
  said = both_said front more h.calls g.calls h.said g.said;
  ended = both_end a l h.calls g.calls h.ends g.ends h.ended g.ended;
  counted = both_counted from mid to h.ends g.ends h.counted g.counted;
  written = subst (Appends old new) (sym (lines_append from.calls h.ends g.ends ∙ ap (λ n. call_lines from.calls h.ends ++ call_lines n g.ends) (sym h.counted.calls))) (Appends-trans old between new _ _ h.written g.written);
}

-- a beginning of what is written next, behind what was written
pub front_behind : (old mid new : Option (List ℕ)) (done text : List ℕ) → Appends old mid done → AppendsFront mid new text → AppendsFront old new (done ++ text)
front_behind old mid new done text before (front, rest, split, now) =
    (done ++ front, rest, ap (λ l. done ++ l) split ∙ sym (append_assoc done front rest), Appends-trans old mid new done front before now)

pub both_fall : (a : Accepted) (l : Limits) (front more : List ℕ) (from mid : Tally) (old between new : Option (List ℕ)) → Advances a l front from mid old between → Falls a l more mid between new → Falls a l (front ++ more) from old new
both_fall a l front more from mid old between new h g = record {
  calls = h.calls ++ g.calls;
  ends = h.ends ++ g.ends;
  said = both_said front more h.calls g.calls h.said g.said;
  ended = both_end a l h.calls g.calls h.ends g.ends h.ended g.ended;
  written = subst (AppendsFront old new) (sym (lines_append from.calls h.ends g.ends ∙ ap (λ n. call_lines from.calls h.ends ++ call_lines n g.ends) (sym h.counted.calls))) (front_behind old between new _ _ h.written g.written);
}

-- ---- round after round

-- there is room for the indices of the calls
pub round_room : (a : Accepted) (l : Limits) (text done rest first behind : List ℕ) (from to : Tally) (old new : Option (List ℕ)) (calls given : List Given) → text ≡ done ++ rest → rest ≡ first ++ behind → Advances a l done from to old new
    → given ≡ calls → IsSaid first (calls_of calls) → from.calls + length text < 2 ^ 64 → to.calls + length given < 2 ^ 64
round_room a l text done rest first behind from to old new calls given split split' h same said few =
    omega (
      arith,
      few,
      ap length split,
      length-append done rest,
      ap length split',
      length-append first behind,
      h.counted.calls,
      as_many a l h.calls h.ends h.ended,
      h.said.few,
      said.few,
      length-map calls call_of,
      ap length same,
    )

-- what is done of the text
split_more : (text done rest first behind : List ℕ) → text ≡ done ++ rest → rest ≡ first ++ behind → text ≡ (done ++ first) ++ behind
split_more text done rest first behind split split' = split ∙ ap (λ (l : List ℕ). done ++ l) split' ∙ sym (append_assoc done first behind)

-- a round more
pub round_more : (a : Accepted) (l : Limits) (text done rest first behind : List ℕ) (from mid to : Tally) (old between new : Option (List ℕ)) (calls given : List Given) → text ≡ done ++ rest → rest ≡ first ++ behind → Advances a l done from mid old between
    → given ≡ calls → IsSaid first (calls_of calls) → (ends : List CallEnd) × EndEach a l (calls_of given) ends × Counts mid to ends × Appends between new (call_lines mid.calls ends)
    → (done : List ℕ) × (text ≡ done ++ behind) × Advances a l done from to old new
round_more a l text done rest first behind from mid to old between new calls given split split' h same said (ends, each, counted, written) =
    let ended : EndEach a l (calls_of calls) ends = subst (λ (c : List Given). EndEach a l (calls_of c) ends) same each in
    let one : Advances a l first mid to between new = record { calls = calls_of calls; ends = ends; said = said; ended = ended; counted = counted; written = written } in
    (done ++ first, split_more text done rest first behind split split', both_answered a l done first from mid to old between new h one)

-- a write failed
pub round_failed : (a : Accepted) (l : Limits) (text done rest first behind : List ℕ) (from mid : Tally) (old between new : Option (List ℕ)) (calls given : List Given) → text ≡ done ++ rest → rest ≡ first ++ behind → Advances a l done from mid old between
    → given ≡ calls → IsSaid first (calls_of calls) → (ends : List CallEnd) × EndEach a l (calls_of given) ends × AppendsFront between new (call_lines mid.calls ends)
    → (first rest : List ℕ) × (text ≡ first ++ rest) × Falls a l first from old new
round_failed a l text done rest first behind from mid old between new calls given split split' h same said (ends, each, written) =
    let ended : EndEach a l (calls_of calls) ends = subst (λ (c : List Given). EndEach a l (calls_of c) ends) same each in
    let one : Falls a l first mid between new = record { calls = calls_of calls; ends = ends; said = said; ended = ended; written = written } in
    (done ++ first, behind, split_more text done rest first behind split split', both_fall a l done first from mid old between new h one)

-- nothing more was written
pub same_written : (a : Accepted) (l : Limits) (text : List ℕ) (from to : Tally) (old mid new : Option (List ℕ)) → Advances a l text from to old mid → Keeps mid new → Advances a l text from to old new
same_written a l text from to old mid new h kept = record {
  calls = h.calls;
  ends = h.ends;
  said = h.said;
  ended = h.ended;
  counted = h.counted;
  written = Appends-kept old mid new (call_lines from.calls h.ends) h.written kept;
}

-- how a round ends that has a fault
pub round_stops : (a : Accepted) (l : Limits) (f : StreamFault) (text done rest first behind : List ℕ) (from mid to : Tally) (old between new : Option (List ℕ)) (calls given : List Given) → text ≡ done ++ rest → rest ≡ first ++ behind
    → Advances a l done from mid old between → given ≡ calls → IsSaid first (calls_of calls) → AnswersRound a l given mid to between new (Err f) → Stops a l text from old new f
round_stops a l fault.Write text done rest first behind from mid to old between new calls given split split' h same said r = round_failed a l text done rest first behind from mid old between new calls given split split' h same said r
round_stops a l fault.Memory text done rest first behind from mid to old between new calls given split split' h same said r = (done, rest, mid, split, same_written a l done from mid old between new h r)
round_stops a l fault.Read text done rest first behind from mid to old between new calls given split split' h same said r = absurd r

-- ---- a piece

no_newline : (front more : List ℕ) → IsFree front → IsFree more → IsFree (front ++ more)
no_newline front more h g = grind (arith, common_steps)

-- what is held after lines that were answered
pub held_on : (a : Accepted) (l : Limits) (r : LinesSoFar) (text first held : List ℕ) (from to : Tally) (old new : Option (List ℕ)) → text ≡ first ++ held → IsFree held → Advances a l first from to old new → IsHeld held r → Takes a l text from to held old new (Ok r)
held_on a l lines.Good text first held from to old new split free h fits = (first, split, free, fits, h)
held_on a l lines.Bad text first held from to old new split free h long = (first, held, split, held_long held free long, h)

-- no line ends in the piece
pub held_longer : (a : Accepted) (l : Limits) (r : LinesSoFar) (held piece now : List ℕ) (from : Tally) (old : Option (List ℕ)) → IsFree held → IsFree piece → now ≡ held ++ piece → IsHeld now r → Takes a l (held ++ piece) from from now old old (Ok r)
held_longer a l r held piece now from old free free' is h =
    held_on a l r (held ++ piece) [] now from from old old (sym is) (subst IsFree (sym is) (no_newline held piece free free')) (nothing_answered a l from old) h

-- a fault before a round
pub nothing_stops : (a : Accepted) (l : Limits) (text : List ℕ) (from : Tally) (old : Option (List ℕ)) → Stops a l text from old old fault.Memory
nothing_stops a l text from old = ([], text, from, refl, nothing_answered a l from old)

-- what is held is kept
kept_on : (a : Accepted) (l : Limits) (r : LinesSoFar) (text given rest kept now : List ℕ) (from to : Tally) (old new : Option (List ℕ)) → given ≡ text → kept ≡ rest → now ≡ kept
    → (first : List ℕ) × (given ≡ first ++ rest) × IsFree rest × Advances a l first from to old new → IsHeld now r → Takes a l text from to kept old new (Ok r)
kept_on a l r text given rest kept now from to old new is same same' (first, split, free, h) fits =
    held_on a l r text first kept from to old new (sym is ∙ split ∙ ap (λ (t : List ℕ). first ++ t) (sym same)) (subst IsFree (sym same) free) h (subst (λ (t : List ℕ). IsHeld t r) same' fits)

pub held_kept : (a : Accepted) (l : Limits) (r : LinesSoFar) (text given kept now : List ℕ) (rest : Bor (List ℕ)) (found : Behind) (answered : Result Behind StreamFault) (from to : Tally) (old new : Option (List ℕ)) → given ≡ text → kept ≡ rest.now → now ≡ kept
    → answered ≡ Ok found → found ≡ behind.Unended rest → Answers a l given from to old new answered → IsHeld now r → Takes a l text from to kept old new (Ok r)
held_kept a l r text given kept now rest found answered from to old new is same same' ok unended h fits =
    let answers = subst (λ (b : Result Behind StreamFault). Answers a l given from to old new b) (ok ∙ ap (λ (b : Behind). Ok b) unended) h in
    kept_on a l r text given rest.now kept now from to old new is same same' answers fits

-- no line ends in the piece, and what is held is long
pub held_after : (a : Accepted) (l : Limits) (r : LinesSoFar) (held piece now given : List ℕ) (from : Tally) (old : Option (List ℕ)) → IsFree held → IsFree piece → now ≡ held ++ piece → given ≡ now → IsHeld given r → Takes a l (held ++ piece) from from now old old (Ok r)
held_after a l r held piece now given from old free free' is same h = held_longer a l r held piece now from old free free' is (subst (λ (t : List ℕ). IsHeld t r) same h)

-- the text that was put together is the one that is answered
pub stops_there : (a : Accepted) (l : Limits) (text given : List ℕ) (from : Tally) (old new : Option (List ℕ)) (f : StreamFault) → given ≡ text → Stops a l given from old new f → Stops a l text from old new f
stops_there a l text given from old new f is h = subst (λ (t : List ℕ). Stops a l t from old new f) is h

-- ---- the whole stream

-- how far a stream is answered: all that was read, but for the beginning of a line that is held
pub record IsStreaming (a : Accepted) (l : Limits) (from to : Tally) (count : ℕ) (held : List ℕ) (old_in new_in old new : Option (List ℕ)) : Type 0 where
  pub read : List ℕ
  pub consumed : Consumes old_in new_in read
  pub first : List ℕ
  pub split : read ≡ first ++ held
  pub free : IsFree held
  pub few : length read ≤ count * 262144
  pub answered : Advances a l first from to old new

-- the counts are those of no calls
pub record IsZero (t : Tally) : Type 0 where
  pub calls : t.calls ≡ 0
  pub counts : counts t ≡ none

pub nothing_streamed : (a : Accepted) (l : Limits) (from : Tally) (old_in old : Option (List ℕ)) → IsStreaming a l from from 0 [] old_in old_in old old
nothing_streamed a l from old_in old = record {
  read = [];
  consumed = Consumes-nil old_in;
  first = [];
  split = refl;
  free = grind (arith, common_steps);
  few = omega arith;
  answered = nothing_answered a l from old;
}

-- the indices have room
pub stream_room : (a : Accepted) (l : Limits) (from to : Tally) (count : ℕ) (held : List ℕ) (old_in new_in old new : Option (List ℕ)) → IsStreaming a l from to count held old_in new_in old new → from.calls ≡ 0 → count < 35184372088832 → to.calls + length held ≤ count * 262144
stream_room a l from to count held old_in new_in old new h start below =
    omega (
      arith,
      h.answered.counted.calls,
      as_many a l h.answered.calls h.answered.ends h.answered.ended,
      h.answered.said.few,
      h.few,
      ap length h.split,
      length-append h.first held,
    )

-- ---- what is written of a text

take_front : (front rest : List TextLine) → take (length front) (front ++ rest) ≡ front
take_front [] rest = refl
take_front (x ∷ front) rest = ap (λ l. x ∷ l) (take_front front rest)

get_behind : (front : List TextLine) (x : TextLine) (rest : List TextLine) → slice_get (front ++ x ∷ rest) (length front) ≡ Some x
get_behind [] x rest = refl
get_behind (y ∷ front) x rest = get_behind front x rest

-- the lines at the front of the text
said_front : (front rest text : List ℕ) (calls : List Call) → text ≡ front ++ rest → IsSaid front calls → SayEach (take (length (lines_of front)) (lines_of text)) calls
said_front front rest text calls split said =
    subst (λ (t : List TextLine). SayEach t calls) (sym (ap (λ (t : List ℕ). take (length (lines_of front)) (lines_of t)) split ∙ ap (take (length (lines_of front))) (said.whole rest) ∙ take_front (lines_of front) (lines_of rest))) said.said

are_lines : (a : Accepted) (l : Limits) (front rest text : List ℕ) (calls : List Call) (ends : List CallEnd) → text ≡ front ++ rest → IsSaid front calls → EndEach a l calls ends → AreLines a l text (call_lines 0 ends)
are_lines a l front rest text calls ends split said ended =
    record { count = length (lines_of front); calls = calls; ends = ends; said = said_front front rest text calls split said; ended = have_ends a l calls ends ended; is = refl }

-- the lines that were written
first_lines : (a : Accepted) (l : Limits) (front rest text : List ℕ) (from to : Tally) (old new : Option (List ℕ)) → from.calls ≡ 0 → text ≡ front ++ rest → Advances a l front from to old new → (out : List ℕ) × AreLines a l text out × Appends old new out
first_lines a l front rest text from to old new start split h =
    (call_lines 0 h.ends, are_lines a l front rest text h.calls h.ends split h.said h.ended, subst (λ n. Appends old new (call_lines n h.ends)) start h.written)

-- a fault
stopped : (a : Accepted) (l : Limits) (f : StreamFault) (text first more rest : List ℕ) (from mid : Tally) (old between new : Option (List ℕ)) → from.calls ≡ 0 → text ≡ first ++ (more ++ rest) → Advances a l first from mid old between → Stops a l more mid between new f
    → Streams a l text old new (Err f)
stopped a l fault.Write text first more rest from mid old between new start split h (front, behind, split', falls) =
    let all : text ≡ (first ++ front) ++ (behind ++ rest) = split ∙ ap (λ (t : List ℕ). first ++ (t ++ rest)) split' ∙ ap (λ (t : List ℕ). first ++ t) (append_assoc front behind rest) ∙ sym (append_assoc first front (behind ++ rest)) in
    let both = both_fall a l first front from mid old between new h falls in
    let lines = are_lines a l (first ++ front) (behind ++ rest) text both.calls both.ends all both.said both.ended in
    (call_lines 0 both.ends, inr (inr lines), subst (λ n. AppendsFront old new (call_lines n both.ends)) start both.written)
stopped a l fault.Memory text first more rest from mid old between new start split h (front, behind, to, split', adds) =
    let all : text ≡ (first ++ front) ++ (behind ++ rest) = split ∙ ap (λ (t : List ℕ). first ++ (t ++ rest)) split' ∙ ap (λ (t : List ℕ). first ++ t) (append_assoc front behind rest) ∙ sym (append_assoc first front (behind ++ rest)) in
    first_lines a l (first ++ front) (behind ++ rest) text from to old new start all (both_answered a l first front from mid to old between new h adds)
stopped a l fault.Read text first more rest from mid old between new start split h r = absurd r

-- a bad line
refusal : (a : Accepted) (l : Limits) (text front rest : List ℕ) (line : TextLine) (others : List TextLine) (from to : Tally) (old new : Option (List ℕ)) → IsZero from → text ≡ front ++ rest → lines_of rest ≡ line ∷ others → ((c : Call) → SaysShort line c → ⊥)
    → (h : Advances a l front from to old new) → IsRefusal a l text (call_lines 0 h.ends ++ calls_line (BadLine (to.calls + 1)))
refusal a l text front rest line others from to old new start split at bad h =
    let whole : lines_of text ≡ lines_of front ++ line ∷ others = ap lines_of split ∙ h.said.whole rest ∙ ap (λ (t : List TextLine). lines_of front ++ t) at in
    let number : to.calls + 1 ≡ suc (length (lines_of front)) = omega (arith, h.counted.calls, start.calls, as_many a l h.calls h.ends h.ended, said_many (lines_of front) h.calls h.said.said) in
    record {
      position = length (lines_of front);
      line = line;
      stands = ap (λ (t : List TextLine). slice_get t (length (lines_of front))) whole ∙ get_behind (lines_of front) line others;
      bad = bad;
      calls = h.calls;
      ends = h.ends;
      said = said_front front rest text h.calls split h.said;
      ended = have_ends a l h.calls h.ends h.ended;
      is = ap (λ n. call_lines 0 h.ends ++ calls_line (BadLine n)) number;
    }

pub refused : (a : Accepted) (l : Limits) (r : Result Status StreamFault) (text front rest : List ℕ) (line : TextLine) (others : List TextLine) (from to : Tally) (old mid new : Option (List ℕ)) → IsZero from → text ≡ front ++ rest → lines_of rest ≡ line ∷ others
    → ((c : Call) → SaysShort line c → ⊥) → Advances a l front from to old mid → RefusesLine to mid new r → Streams a l text old new r
refused a l (Ok Good) text front rest line others from to old mid new start split at bad h ends = absurd (let e = ends.0 in cc)
refused a l (Ok ModuleRefused) text front rest line others from to old mid new start split at bad h ends = absurd (let e = ends.0 in cc)
refused a l (Ok CallsRefused) text front rest line others from to old mid new start split at bad h ends =
    let before : Appends old mid (call_lines 0 h.ends) = subst (λ n. Appends old mid (call_lines n h.ends)) start.calls h.written in
    (call_lines 0 h.ends ++ calls_line (BadLine (to.calls + 1)), refusal a l text front rest line others from to old mid start split at bad h, Appends-trans old mid new _ _ before ends.1)
refused a l (Err fault.Write) text front rest line others from to old mid new start split at bad h ends =
    let before : Appends old mid (call_lines 0 h.ends) = subst (λ n. Appends old mid (call_lines n h.ends)) start.calls h.written in
    (call_lines 0 h.ends ++ calls_line (BadLine (to.calls + 1)), inr (inl (refusal a l text front rest line others from to old mid start split at bad h)), front_behind old mid new _ _ before ends)
refused a l (Err fault.Memory) text front rest line others from to old mid new start split at bad h ends =
    first_lines a l front rest text from to old new start.calls split (same_written a l front from to old mid new h ends)
refused a l (Err fault.Read) text front rest line others from to old mid new start split at bad h ends = absurd ends

-- the report
report : (a : Accepted) (l : Limits) (text : List ℕ) (from to : Tally) (old new : Option (List ℕ)) → IsZero from → (h : Advances a l text from to old new) → IsReport a l text (call_lines 0 h.ends ++ total_text to.calls (counts to))
report a l text from to old new start h =
    let number : to.calls ≡ length h.ends = omega (arith, h.counted.calls, start.calls) in
    record {
      calls = h.calls;
      ends = h.ends;
      said = h.said.said;
      ended = have_ends a l h.calls h.ends h.ended;
      is = ap (λ n. call_lines 0 h.ends ++ total_text n (counts to)) number ∙ ap (λ (t : Counted). call_lines 0 h.ends ++ total_text (length h.ends) t) (all_counted from to h.ends start.counts h.counted);
    }

reported : (a : Accepted) (l : Limits) (r : Result Status StreamFault) (text : List ℕ) (from to : Tally) (old mid new : Option (List ℕ)) → IsZero from → Advances a l text from to old mid → EndsWith (total_text to.calls (counts to)) Good mid new r → Streams a l text old new r
reported a l (Ok CallsRefused) text from to old mid new start h ends = absurd (let e = ends.0 in cc)
reported a l (Ok ModuleRefused) text from to old mid new start h ends = absurd (let e = ends.0 in cc)
reported a l (Ok Good) text from to old mid new start h ends =
    let before : Appends old mid (call_lines 0 h.ends) = subst (λ n. Appends old mid (call_lines n h.ends)) start.calls h.written in
    (call_lines 0 h.ends ++ total_text to.calls (counts to), report a l text from to old mid start h, Appends-trans old mid new _ _ before ends.1)
reported a l (Err fault.Write) text from to old mid new start h ends =
    let before : Appends old mid (call_lines 0 h.ends) = subst (λ n. Appends old mid (call_lines n h.ends)) start.calls h.written in
    (call_lines 0 h.ends ++ total_text to.calls (counts to), inl (report a l text from to old mid start h), front_behind old mid new _ _ before ends)
reported a l (Err fault.Memory) text from to old mid new start h ends = first_lines a l text [] text from to old new start.calls (sym (append-nil text)) (same_written a l text from to old mid new h ends)
reported a l (Err fault.Read) text from to old mid new start h ends = absurd ends

-- ---- by what the reader had

-- whatever is left, the text begins with what was read
text_read : (a b : Option (List ℕ)) (read : List ℕ) (P : List ℕ → Type 0) → Consumes a b read → ((rest : List ℕ) → P (read ++ rest)) → IfSome a P
text_read None b read P h each = tt
text_read (Some xs) None read P h each = absurd h
text_read (Some xs) (Some ys) read P h each = subst P (sym h) (each ys)

-- the end of the reader
pub stream_reported : (a : Accepted) (l : Limits) (r : Result Status StreamFault) (from to : Tally) (count : ℕ) (held : List ℕ) (old_in mid_in new_in old mid new : Option (List ℕ)) → IsZero from → IsStreaming a l from to count held old_in mid_in old mid → length held ≡ 0
    → Consumes mid_in new_in [] → IsAtEnd new_in → EndsWith (total_text to.calls (counts to)) Good mid new r → IfSome old_in (λ text. Streams a l text old new r)
stream_reported a l r from to count (b ∷ held) old_in mid_in new_in old mid new start h empty last end ends = absurd (omega arith)
stream_reported a l r from to count [] old_in mid_in new_in old mid new start h empty last end ends =
    let all : h.read ++ [] ≡ h.first = append-nil h.read ∙ h.split ∙ append-nil h.first in
    Consumes-whole old_in new_in (h.read ++ []) (λ text. Streams a l text old new r) (Consumes-trans old_in mid_in new_in h.read [] h.consumed last) end (subst (λ (t : List ℕ). Streams a l t old new r) (sym all) (reported a l r h.first from to old mid new start h.answered ends))

pub stream_unended : (a : Accepted) (l : Limits) (r : Result Status StreamFault) (from to : Tally) (count : ℕ) (held : List ℕ) (old_in mid_in new_in old mid new : Option (List ℕ)) → IsZero from → IsStreaming a l from to count held old_in mid_in old mid → 0 < length held
    → Consumes mid_in new_in [] → IsAtEnd new_in → RefusesLine to mid new r → IfSome old_in (λ text. Streams a l text old new r)
stream_unended a l r from to count held old_in mid_in new_in old mid new start h some last end ends =
    Consumes-whole old_in new_in (h.read ++ []) (λ text. Streams a l text old new r) (Consumes-trans old_in mid_in new_in h.read [] h.consumed last) end
    (refused a l r (h.read ++ []) h.first held (Unended held) [] from to old mid new start (append-nil h.read ∙ h.split) (held_unended held h.free some) (λ c says. says) h.answered ends)

-- a read failed
pub stream_unread : (a : Accepted) (l : Limits) (from to : Tally) (count : ℕ) (held : List ℕ) (old_in mid_in new_in old mid : Option (List ℕ)) → IsZero from → IsStreaming a l from to count held old_in mid_in old mid → Consumes mid_in new_in []
    → IfSome old_in (λ text. Streams a l text old mid (Err fault.Read))
stream_unread a l from to count held old_in mid_in new_in old mid start h last =
    text_read old_in mid_in h.read (λ text. Streams a l text old mid (Err fault.Read)) h.consumed
    (λ rest. first_lines a l h.first (held ++ rest) (h.read ++ rest) from to old mid start.calls (ap (λ (t : List ℕ). t ++ rest) h.split ∙ append_assoc h.first held rest) h.answered)

-- where a piece is put behind what was read
more_read : (first held piece read rest : List ℕ) → read ≡ first ++ held → (read ++ piece) ++ rest ≡ first ++ ((held ++ piece) ++ rest)
more_read first held piece read rest split =
    ap (λ (t : List ℕ). (t ++ piece) ++ rest) split ∙ ap (λ (t : List ℕ). t ++ rest) (append_assoc first held piece) ∙ append_assoc first (held ++ piece) rest

-- a fault
pub stream_stopped : (a : Accepted) (l : Limits) (f : StreamFault) (from to : Tally) (count : ℕ) (held piece : List ℕ) (old_in mid_in new_in old mid new : Option (List ℕ)) → IsZero from → IsStreaming a l from to count held old_in mid_in old mid
    → Consumes mid_in new_in piece → Stops a l (held ++ piece) to mid new f → IfSome old_in (λ text. Streams a l text old new (Err f))
stream_stopped a l f from to count held piece old_in mid_in new_in old mid new start h more stops =
    text_read old_in new_in (h.read ++ piece) (λ text. Streams a l text old new (Err f)) (Consumes-trans old_in mid_in new_in h.read piece h.consumed more)
    (λ rest. stopped a l f ((h.read ++ piece) ++ rest) h.first (held ++ piece) rest from to old mid new start.calls (more_read h.first held piece h.read rest h.split) h.answered stops)

-- a bad line
bad_read : (a : Accepted) (l : Limits) (r : Result Status StreamFault) (text first more rest : List ℕ) (from mid to : Tally) (old between last new : Option (List ℕ)) → IsZero from → text ≡ first ++ (more ++ rest) → Advances a l first from mid old between
    → StopsBad a l more mid to between last → RefusesLine to last new r → Streams a l text old new r
bad_read a l r text first more rest from mid to old between last new start split h (front, behind, split', bad, adds) ends =
    let all : text ≡ (first ++ front) ++ (behind ++ rest) = split ∙ ap (λ (t : List ℕ). first ++ (t ++ rest)) split' ∙ ap (λ (t : List ℕ). first ++ t) (append_assoc front behind rest) ∙ sym (append_assoc first front (behind ++ rest)) in
    let (line, others, at, worse) = bad rest in
    refused a l r text (first ++ front) (behind ++ rest) line others from to old last new start all at worse (both_answered a l first front from mid to old between last h adds) ends

pub stream_refused : (a : Accepted) (l : Limits) (r : Result Status StreamFault) (from mid to : Tally) (count : ℕ) (held piece : List ℕ) (old_in mid_in new_in old between last new : Option (List ℕ)) → IsZero from → IsStreaming a l from mid count held old_in mid_in old between
    → Consumes mid_in new_in piece → StopsBad a l (held ++ piece) mid to between last → RefusesLine to last new r → IfSome old_in (λ text. Streams a l text old new r)
stream_refused a l r from mid to count held piece old_in mid_in new_in old between last new start h more bad ends =
    text_read old_in new_in (h.read ++ piece) (λ text. Streams a l text old new r) (Consumes-trans old_in mid_in new_in h.read piece h.consumed more)
    (λ rest. bad_read a l r ((h.read ++ piece) ++ rest) h.first (held ++ piece) rest from mid to old between last new start (more_read h.first held piece h.read rest h.split) h.answered bad ends)

-- a piece more
pub stream_more : (a : Accepted) (l : Limits) (from mid to : Tally) (count : ℕ) (held piece kept : List ℕ) (old_in mid_in new_in old between new : Option (List ℕ)) → IsStreaming a l from mid count held old_in mid_in old between
    → Consumes mid_in new_in piece → length piece ≤ 262144 → (first : List ℕ) × (held ++ piece ≡ first ++ kept) × IsFree kept × (length kept < calls_limit) × Advances a l first mid to between new → IsStreaming a l from to (count + 1) kept old_in new_in old new
stream_more a l from mid to count held piece kept old_in mid_in new_in old between new h more few (first, split, free, fits, adds) = record {
  read = h.read ++ piece;
  consumed = Consumes-trans old_in mid_in new_in h.read piece h.consumed more;
  first = h.first ++ first;
  split = ap (λ (t : List ℕ). t ++ piece) h.split ∙ append_assoc h.first held piece ∙ ap (λ (t : List ℕ). h.first ++ t) split ∙ sym (append_assoc h.first first kept);
  free = free;
  few = omega (arith, h.few, few, length-append h.read piece);
  answered = both_answered a l h.first first from mid to old between new h.answered adds;
}

-- nothing was written for want of memory
pub stream_unbegun : (a : Accepted) (l : Limits) (old_in old : Option (List ℕ)) → IfSome old_in (λ text. Streams a l text old old (Err fault.Memory))
stream_unbegun a l None old = tt
stream_unbegun a l (Some text) old = ([], record { count = 0; calls = []; ends = []; said = tt; ended = have_ends a l [] [] tt; is = refl }, Appends-nil old)

-- ---- beside an answer to the whole text

as_run : (a : Accepted) (l : Limits) (text : List ℕ) (old new : Option (List ℕ)) (r : Result Status StreamFault) → Streams a l text old new r → AnswersAsRun a l text old new r
unfolding IsCalls
as_run a l text old new (Ok Good) (out, h, now) = λ small few.
    let (short, ends) = h.ended in
    (out, (short, GoodCalls h.calls, (small, few, say_all (lines_of text) h.calls h.said), (h.ends, ends, h.is)), now)
as_run a l text old new (Ok ModuleRefused) h = tt
as_run a l text old new (Ok CallsRefused) h = tt
as_run a l text old new (Err f) h = tt

pub stream_as_run : (a : Accepted) (l : Limits) (old_in old new : Option (List ℕ)) (r : Result Status StreamFault) → IfSome old_in (λ text. Streams a l text old new r) → IfSome old_in (λ text. AnswersAsRun a l text old new r)
stream_as_run a l None old new r h = tt
stream_as_run a l (Some text) old new r h = as_run a l text old new r h

-- ---- what a read gave

pub piece_bytes : (old new : Option (List ℕ)) (piece : List ℕ) (r : Result (Option ℕ) StreamFault) (found : Option ℕ) (n : ℕ) → GivesPiece old new piece r → r ≡ Ok found → found ≡ Some n → (n ≤ length piece) × Consumes old new (take n piece)
piece_bytes old new piece r found n h ok some = subst (GivesPiece old new piece) (ok ∙ ap (λ (o : Option ℕ). Ok o) some) h

pub piece_end : (old new : Option (List ℕ)) (piece : List ℕ) (r : Result (Option ℕ) StreamFault) (found : Option ℕ) → GivesPiece old new piece r → r ≡ Ok found → found ≡ None → Consumes old new [] × IsAtEnd new
piece_end old new piece r found h ok ended = subst (GivesPiece old new piece) (ok ∙ ap (λ (o : Option ℕ). Ok o) ended) h

pub stream_fault : (a : Accepted) (l : Limits) (f : StreamFault) (from to : Tally) (count : ℕ) (held piece : List ℕ) (old_in mid_in new_in old mid : Option (List ℕ)) → IsZero from → IsStreaming a l from to count held old_in mid_in old mid → GivesPiece mid_in new_in piece (Err f)
    → IfSome old_in (λ text. Streams a l text old mid (Err f))
stream_fault a l fault.Read from to count held piece old_in mid_in new_in old mid start h r = stream_unread a l from to count held old_in mid_in new_in old mid start h r
stream_fault a l fault.Write from to count held piece old_in mid_in new_in old mid start h r = absurd r
stream_fault a l fault.Memory from to count held piece old_in mid_in new_in old mid start h r = absurd r

-- there is no end
pub stream_endless : (a : Accepted) (l : Limits) (from to : Tally) (count : ℕ) (held : List ℕ) (old_in mid_in old mid : Option (List ℕ)) → IsZero from → IsStreaming a l from to count held old_in mid_in old mid → IfSome old_in (λ text. Streams a l text old mid (Err fault.Read))
stream_endless a l from to count held old_in mid_in old mid start h = stream_unread a l from to count held old_in mid_in mid_in old mid start h (Consumes-nil mid_in)

-- ---- what was taken

pub taken_bad : (a : Accepted) (l : Limits) (text : List ℕ) (from to : Tally) (held : List ℕ) (old new : Option (List ℕ)) (r : Result LinesSoFar StreamFault) (found : LinesSoFar) → Takes a l text from to held old new r → r ≡ Ok found → found ≡ lines.Bad → StopsBad a l text from to old new
taken_bad a l text from to held old new r found h ok bad = subst (Takes a l text from to held old new) (ok ∙ ap (λ (o : LinesSoFar). Ok o) bad) h

pub taken_good : (a : Accepted) (l : Limits) (text : List ℕ) (from to : Tally) (held : List ℕ) (old new : Option (List ℕ)) (r : Result LinesSoFar StreamFault) (found : LinesSoFar) → Takes a l text from to held old new r → r ≡ Ok found → found ≡ lines.Good
    → (first : List ℕ) × (text ≡ first ++ held) × IsFree held × (length held < calls_limit) × Advances a l first from to old new
taken_good a l text from to held old new r found h ok good = subst (Takes a l text from to held old new) (ok ∙ ap (λ (o : LinesSoFar). Ok o) good) h

pub taken_fault : (a : Accepted) (l : Limits) (text : List ℕ) (from to : Tally) (held : List ℕ) (old new : Option (List ℕ)) (r : Result LinesSoFar StreamFault) (f : StreamFault) → Takes a l text from to held old new r → r ≡ Err f → Stops a l text from old new f
taken_fault a l text from to held old new r f h err = subst (Takes a l text from to held old new) err h

-- a line after those that were answered has a number
pub refused_room : (a : Accepted) (l : Limits) (text : List ℕ) (from to : Tally) (old new : Option (List ℕ)) → StopsBad a l text from to old new → from.calls + length text < 2 ^ 64 - 1 → to.calls + 1 < 2 ^ 64
refused_room a l text from to old new (first, rest, split, bad, h) few =
    omega (arith, few, h.counted.calls, as_many a l h.calls h.ends h.ended, h.said.few, ap length split, length-append first rest)
