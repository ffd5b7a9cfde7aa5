-- What `explain_file` and `explain_files` print explains the bytes that they read, as text or as an object, and their status goes by the verdict.
use Rattle.std.proofs.Common.{◌≡◌, ℕ, Bool, List, [], ◌∷◌, Option, Some, None, Result, Ok, Err, inr, refl, sym, ap, subst, ◌∙◌, arith}
use Rattle.std.specs.Prelude.{IsSomeAnd}
use Rattle.wsyntax.specs.Binary.Shell.{module_limit}
use Rattle.wsyntax.specs.Texts.Lines.{verdict_line}
use Rattle.wsyntax.specs.Validation.Verdict.{Verdict, IsVerdict}
use Rattle.batch.specs.Report.{status_of}
use Rattle.batch.specs.declared.status.Status.{Status}
use Rattle.batch.specs.declared.status.Status.TheVariants.{Good}
use Rattle.explain_text.specs.Texts.{BeginsWith}
use Rattle.program.specs.Checks.{Judges}
use Rattle.std.proofs.lemmas.Option.{slice_get_within}
use Rattle.wsyntax.specs.Texts.Calls.{CallsText, TooLong, BadLine, Good as GoodCalls, IsCalls, lines_of, calls_limit}
use Rattle.wsyntax.specs.Validation.Verdict.{Accepted, TooLarge, Malformed, RuleBroken, BodyRefused}
use Rattle.batch.specs.Answers.{StatusBy, calls_status}
use Rattle.explain.specs.CallsTold.{RefusedBy, TellsBoth, refused_calls}
use Rattle.explain.specs.declared.explaining_calls.Refused.{Refused}
use Rattle.program.specs.Explains.{Explains, ExplainsCalls, IsCallsExplained, IsExplained, IsTold, ShowsExplained, TellsVerdict, refused_status}
use Rattle.program.specs.Prints.{Shows}
use Rattle.program.specs.Reads.{IsRead, ReadsInOrder}
use Rattle.program.specs.Sources.{ReadsPaths}
use Rattle.program.specs.declared.fault.ProgramFault.{ProgramFault}
use Rattle.program.specs.declared.fault.ProgramFault.TheVariants.{Usage, Unread, SomeUnread, Names, Write, Memory}

-- What is told.

status_of_calls : (c : CallsText) → refused_status (refused_calls c) ≡ calls_status c
status_of_calls TooLong = refl
status_of_calls (BadLine k) = refl
status_of_calls (GoodCalls calls) = refl

-- the status goes by what is refused
by_refused : (text : List ℕ) (v : Verdict) (refused : Option Refused) (s : Status) → s ≡ refused_status refused → RefusedBy text v refused → StatusBy text v s
by_refused text Accepted refused s e (c, is, told) = (c, is, e ∙ ap refused_status told ∙ status_of_calls c)
by_refused text TooLarge refused s e told = e ∙ ap refused_status told
by_refused text Malformed refused s e told = e ∙ ap refused_status told
by_refused text (RuleBroken k) refused s e told = e ∙ ap refused_status told
by_refused text (BodyRefused f fault) refused s e told = e ∙ ap refused_status told

-- the text begins with the verdict that is told
pub begins_told : (bytes text out : List ℕ) (refused : Option Refused) (told : Option Verdict) → TellsBoth bytes text refused told out → IsSomeAnd told (λ v. BeginsWith (verdict_line v) out)
begins_told bytes text out refused told (v, verdict, by, says, begins) = subst (λ (x : Option Verdict). IsSomeAnd x (λ v. BeginsWith (verdict_line v) out)) (sym says) begins

-- what is printed of a verdict that is told
tells_of : (json : Bool) (told : Option Verdict) (v : Verdict) (out : List ℕ) → told ≡ Some v → IsSomeAnd told (λ v. TellsVerdict json v out) → TellsVerdict json v out
tells_of json told v out says tells = subst (λ (x : Option Verdict). IsSomeAnd x (λ v. TellsVerdict json v out)) says tells

pub told_of : (json : Bool) (bytes text out printed : List ℕ) (refused : Option Refused) (told : Option Verdict) (s : Status) → TellsBoth bytes text refused told out
    → IsSomeAnd told (λ v. TellsVerdict json v printed) → s ≡ refused_status refused → IsTold json bytes text s printed
told_of json bytes text out printed refused told s (v, verdict, by, says, begins) tells e = record {
  v = v;
  verdict = verdict;
  status_is = by_refused text v refused s e by;
  begins = tells_of json told v printed says tells;
}

shown_told : (json : Bool) (bytes text out : List ℕ) (old new : Option (List ℕ)) (s : Status) (r : Result Status ProgramFault) → IsTold json bytes text s out → Shows out s old new r → ShowsExplained json bytes text old new r
shown_told json bytes text out old new s (Ok t) told shown = (out, subst (λ (x : Status). IsTold json bytes text x out) (sym shown.0) told, shown.1)
shown_told json bytes text out old new s (Err Write) told shown = (s, out, told, shown)
shown_told json bytes text out old new s (Err (Usage t)) told shown = absurd shown
shown_told json bytes text out old new s (Err (Unread path reason)) told shown = absurd shown
shown_told json bytes text out old new s (Err SomeUnread) told shown = absurd shown
shown_told json bytes text out old new s (Err Names) told shown = absurd shown
shown_told json bytes text out old new s (Err Memory) told shown = absurd shown

pub explained : (json : Bool) (bytes text out shown : List ℕ) (old new : Option (List ℕ)) (s : Status) (r : Result Status ProgramFault) → IsTold json bytes text s out → shown ≡ out → Shows shown s old new r
    → ShowsExplained json bytes text old new r
explained json bytes text out shown old new s r told is done = shown_told json bytes text out old new s r told (subst (λ (x : List ℕ). Shows x s old new r) is done)

-- Without calls.

-- a text of no bytes is good
no_line_is_bad : (c : CallsText) → IsCalls [] c → calls_status c ≡ Good
unfolding IsCalls
no_line_is_bad TooLong is = absurd (omega (arith, is))
no_line_is_bad (BadLine k) is = absurd (omega (arith, slice_get_within (lines_of []) is.1.position is.1.line is.1.stands))
no_line_is_bad (GoodCalls calls) is = refl

by_verdict : (v : Verdict) (s : Status) → StatusBy [] v s → s ≡ status_of v
by_verdict Accepted s (c, is, e) = e ∙ no_line_is_bad c is
by_verdict TooLarge s e = e
by_verdict Malformed s e = e
by_verdict (RuleBroken k) s e = e
by_verdict (BodyRefused f fault) s e = e

judged : (json : Bool) (held : Option (List ℕ)) (bytes slice out : List ℕ) (s : Status) → IsRead module_limit held bytes → slice ≡ bytes → (told : IsTold json slice [] s out) → IsExplained json (Judges held) told.v out
judged json held bytes slice out s read same told = (record { bytes = bytes; read = read; verdict = subst (λ x. IsVerdict x told.v) same told.verdict }, told.begins)

pub explains : (json : Bool) (held : Option (List ℕ)) (bytes slice : List ℕ) (old new : Option (List ℕ)) (r : Result Status ProgramFault) → IsRead module_limit held bytes → slice ≡ bytes
    → ShowsExplained json slice [] old new r → Explains json held old new r
explains json held bytes slice old new (Ok s) read same (out, told, written) = (told.v, out, judged json held bytes slice out s read same told, by_verdict told.v s told.status_is, written)
explains json held bytes slice old new (Err Write) read same (s, out, told, written) = (told.v, out, judged json held bytes slice out s read same told, written)
explains json held bytes slice old new (Err Memory) read same kept = kept
explains json held bytes slice old new (Err (Usage t)) read same shown = absurd shown
explains json held bytes slice old new (Err (Unread path reason)) read same shown = absurd shown
explains json held bytes slice old new (Err SomeUnread) read same shown = absurd shown
explains json held bytes slice old new (Err Names) read same shown = absurd shown

-- With calls.

-- what was read of the two paths
pub record AreRead (held_module held_calls : Option (List ℕ)) (slice text_slice : List ℕ) : Type 0 where
  pub read_module : IsRead module_limit held_module slice
  pub read_calls : IsRead calls_limit held_calls text_slice

pub are_read : (held_module held_calls held_later : Option (List ℕ)) (bytes slice text text_slice : List ℕ) → IsRead module_limit held_module bytes → IsRead calls_limit held_later text → held_later ≡ held_calls
    → slice ≡ bytes → text_slice ≡ text → AreRead held_module held_calls slice text_slice
are_read held_module held_calls held_later bytes slice text text_slice read_module read_calls same same_bytes same_text = record {
  read_module = subst (λ (x : List ℕ). IsRead module_limit held_module x) (sym same_bytes) read_module;
  read_calls = subst (λ (x : Option (List ℕ)). IsRead calls_limit x text_slice) same (subst (λ (x : List ℕ). IsRead calls_limit held_later x) (sym same_text) read_calls);
}

with_calls : (json : Bool) (held_module held_calls : Option (List ℕ)) (bytes text : List ℕ) (s : Status) (out : List ℕ) → AreRead held_module held_calls bytes text → IsTold json bytes text s out
    → IsCallsExplained json held_module held_calls s out
with_calls json held_module held_calls bytes text s out are told = record {
  bytes = bytes;
  text = text;
  read_module = are.read_module;
  read_calls = are.read_calls;
  told = told;
}

pub explains_calls : (json : Bool) (held_module held_calls : Option (List ℕ)) (bytes text : List ℕ) (old new : Option (List ℕ)) (r : Result Status ProgramFault) → AreRead held_module held_calls bytes text
    → ShowsExplained json bytes text old new r → ExplainsCalls json held_module held_calls old new r
explains_calls json held_module held_calls bytes text old new (Ok s) are (out, told, written) = (out, with_calls json held_module held_calls bytes text s out are told, written)
explains_calls json held_module held_calls bytes text old new (Err Write) are (s, out, told, written) = (s, out, with_calls json held_module held_calls bytes text s out are told, written)
explains_calls json held_module held_calls bytes text old new (Err Memory) are kept = kept
explains_calls json held_module held_calls bytes text old new (Err (Usage t)) are shown = absurd shown
explains_calls json held_module held_calls bytes text old new (Err (Unread path reason)) are shown = absurd shown
explains_calls json held_module held_calls bytes text old new (Err SomeUnread) are shown = absurd shown
explains_calls json held_module held_calls bytes text old new (Err Names) are shown = absurd shown

-- what is shown after both were read
pub ordered : (json : Bool) (bytes text : List ℕ) (out out' : Option (List ℕ)) (r : Result Status ProgramFault) (first second : List ℕ) (asked asked' : Option (List (List ℕ)))
    → ShowsExplained json bytes text out out' r → ReadsPaths asked asked' (first ∷ second ∷ []) → ReadsInOrder first second asked asked' r
ordered json bytes text out out' (Ok t) first second asked asked' shown reads = reads
ordered json bytes text out out' (Err Write) first second asked asked' shown reads = reads
ordered json bytes text out out' (Err Memory) first second asked asked' shown reads = inr (tt, reads)
ordered json bytes text out out' (Err (Usage t)) first second asked asked' shown reads = absurd shown
ordered json bytes text out out' (Err (Unread path reason)) first second asked asked' shown reads = absurd shown
ordered json bytes text out out' (Err SomeUnread) first second asked asked' shown reads = absurd shown
ordered json bytes text out out' (Err Names) first second asked asked' shown reads = absurd shown
