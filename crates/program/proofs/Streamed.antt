-- The report that `stream_files` prints is on the module and the calls that it read, and a path that cannot be read ends it.
use Rattle.std.proofs.Common.{◌≡◌, ◌≢◌, ℕ, List, [], ◌∷◌, Option, Some, None, Result, Ok, Err, IfOk, IfSome, inl, inr, refl, subst, sym}
use Rattle.std.specs.Prelude.{IsErrAnd, IsSomeAnd, string_bytes, String}
use Rattle.std.specs.Io.KnownBytes.{Appends, Keeps}
use Rattle.std.specs.declared.alloc.AllocError.{AllocError}
use Rattle.std.specs.declared.alloc.Global.{Global}
use Rattle.wsyntax.specs.Binary.Shell.{module_limit}
use Rattle.wsyntax.specs.Texts.Answer.{Limits}
use Rattle.wsyntax.specs.Texts.Lines.{verdict_line}
use Rattle.wsyntax.specs.Validation.Verdict.{Verdict, Accepted, TooLarge, Malformed, RuleBroken, BodyRefused, IsVerdict}
use Rattle.accepted_module.specs.Kept.{IsAcceptedFrom}
use Rattle.accepted_module.specs.declared.accepted.Accepted.{Accepted as AcceptedModule}
use Rattle.refusal.specs.Refusals.{verdict_of}
use Rattle.refusal.specs.declared.refusal.Refusal.{Refusal}
use Rattle.refusal.specs.declared.refusal.Refusal.TheVariants as refusal
use Rattle.batch.specs.Output.{AppendsFront}
use Rattle.batch.specs.Streams.{AnswersAsRun, Streams}
use Rattle.batch.specs.declared.status.Status.{Status}
use Rattle.batch.specs.declared.status.Status.TheVariants.{Good, ModuleRefused, CallsRefused}
use Rattle.batch.specs.declared.stream_fault.StreamFault.{StreamFault}
use Rattle.batch.specs.declared.stream_fault.StreamFault.TheVariants as stream
use Rattle.program.specs.Checks.{Judges}
use Rattle.program.specs.Lists.{ShowsText}
use Rattle.program.specs.Reads.{IsRead, IsWant}
use Rattle.program.specs.Sources.{ReadsPaths}
use Rattle.program.specs.Streams.{EndsAfter, EndsBefore, EndsStream, IsStreamedOn, Refuses, StreamsOn}
use Rattle.program.specs.declared.fault.ProgramFault.{ProgramFault}
use Rattle.program.specs.declared.fault.ProgramFault.TheVariants.{Usage, Unread, SomeUnread, Names, Write, Memory}
use Rattle.program.proofs.Rounds.{paths_joined}

-- Where a path cannot be read.

pub unread : (held_module held_calls : Option (List ℕ)) (l : Limits) (path : List ℕ) (old new : Option (List ℕ)) (f : ProgramFault) → IsWant path f → Keeps old new → StreamsOn held_module held_calls l old new (Err f)
unread held_module held_calls l path old new (Usage text) want kept = kept
unread held_module held_calls l path old new (Unread p reason) want kept = inl kept
unread held_module held_calls l path old new SomeUnread want kept = kept
unread held_module held_calls l path old new Names want kept = kept
unread held_module held_calls l path old new Write want kept = absurd want
unread held_module held_calls l path old new Memory want kept = inl kept

pub before : (path : List ℕ) (f : ProgramFault) → IsWant path f → EndsBefore path (Err f)
before path (Usage text) want = want
before path (Unread p reason) want = want
before path SomeUnread want = want
before path Names want = want
before path Write want = tt
before path Memory want = want

pub after : (path : List ℕ) (f : ProgramFault) → IsWant path f → EndsAfter path (Err f)
after path (Usage text) want = want
after path (Unread p reason) want = want
after path SomeUnread want = want
after path Names want = want
after path Write want = tt
after path Memory want = want

-- what a `?` passes on
pub passed : (P : Result Status ProgramFault → Type 0) (r : Result Status ProgramFault) (f : ProgramFault) → IsErrAnd r (λ e. e ≡ f) → P (Err f) → P r
passed P (Err e) f same p = subst (λ (x : ProgramFault). P (Err x)) (sym same) p
passed P (Ok s) f same p = absurd same

-- Of an accepted module.

pub accepted : (held : Option (List ℕ)) (bytes slice : List ℕ) → IsRead module_limit held bytes → slice ≡ bytes → IsVerdict slice Accepted → Judges held Accepted
accepted held bytes slice read same verdict = record { bytes = bytes; read = read; verdict = subst (λ x. IsVerdict x Accepted) same verdict }

-- both paths are asked for
pub both : (old mid new : Option (List (List ℕ))) (path calls : List ℕ) → ReadsPaths old mid (path ∷ []) → ReadsPaths mid new (calls ∷ []) → ReadsPaths old new (path ∷ calls ∷ [])
both old mid new path calls first second = paths_joined old mid new (path ∷ []) (calls ∷ []) first second

-- what is said of the bytes that a file has is said of those that its path holds
of_held : (P : List ℕ → Type 0) (held remaining : Option (List ℕ)) → IfSome held (λ x. remaining ≡ Some x) → IfSome remaining P → IfSome held P
of_held P (Some text) remaining is said = subst (λ (x : Option (List ℕ)). IfSome x P) is said
of_held P None remaining is said = tt

of_calls : (P : List ℕ → Type 0) (held_calls held_later remaining : Option (List ℕ)) → held_later ≡ held_calls → IfSome held_later (λ x. remaining ≡ Some x) → IfSome remaining P → IfSome held_calls P
of_calls P held_calls held_later remaining same is said = subst (λ (x : Option (List ℕ)). IfSome x P) same (of_held P held_later remaining is said)

-- the end of a stream says nothing of the module
abbrev pub IsOfCalls : Result Status StreamFault → Type 0
IsOfCalls s = IfOk s (λ status. status ≢ ModuleRefused)

ended : (held_module held_calls : Option (List ℕ)) (l : Limits) (calls : List ℕ) (old new : Option (List ℕ)) (s : Result Status StreamFault) (r : Result Status ProgramFault) → IsStreamedOn held_module held_calls l old new s → IsOfCalls s → EndsStream calls s r → StreamsOn held_module held_calls l old new r
ended held_module held_calls l calls old new (Ok Good) r on apart e = subst (StreamsOn held_module held_calls l old new) (sym e) on
ended held_module held_calls l calls old new (Ok CallsRefused) r on apart e = subst (StreamsOn held_module held_calls l old new) (sym e) on
ended held_module held_calls l calls old new (Ok ModuleRefused) r on apart e = absurd (apart refl)
ended held_module held_calls l calls old new (Err stream.Write) r on apart e = subst (StreamsOn held_module held_calls l old new) (sym e) (inr on)
ended held_module held_calls l calls old new (Err stream.Memory) r on apart e = subst (StreamsOn held_module held_calls l old new) (sym e) (inr on)
ended held_module held_calls l calls old new (Err stream.Read) (Ok s) on apart e = absurd e
ended held_module held_calls l calls old new (Err stream.Read) (Err (Usage text)) on apart e = absurd e
ended held_module held_calls l calls old new (Err stream.Read) (Err (Unread p reason)) on apart e = inr on
ended held_module held_calls l calls old new (Err stream.Read) (Err SomeUnread) on apart e = absurd e
ended held_module held_calls l calls old new (Err stream.Read) (Err Names) on apart e = absurd e
ended held_module held_calls l calls old new (Err stream.Read) (Err Write) on apart e = absurd e
ended held_module held_calls l calls old new (Err stream.Read) (Err Memory) on apart e = absurd e

-- a stream of the calls that the path held when the module was read
pub streamed : (held_module held_calls held_later remaining : Option (List ℕ)) (l : Limits) (bytes slice calls : List ℕ) (a : AcceptedModule) (old new : Option (List ℕ)) (s : Result Status StreamFault) (r : Result Status ProgramFault)
    → IsRead module_limit held_module bytes → slice ≡ bytes → IsVerdict slice Accepted → IsAcceptedFrom slice a → held_later ≡ held_calls → IfSome held_later (λ x. remaining ≡ Some x)
    → IfSome remaining (λ text. Streams a l text old new s) → IfSome remaining (λ text. AnswersAsRun a l text old new s) → IsOfCalls s → EndsStream calls s r → StreamsOn held_module held_calls l old new r
streamed held_module held_calls held_later remaining l bytes slice calls a old new s r read same verdict from same_held is written as_run apart e =
    ended held_module held_calls l calls old new s r record {
      bytes = bytes;
      read = read;
      verdict = subst (λ x. IsVerdict x Accepted) same verdict;
      judged = a;
      from = subst (λ x. IsAcceptedFrom x a) same from;
      streamed = of_calls (λ text. Streams a l text old new s) held_calls held_later remaining same_held is written;
      as_run = of_calls (λ text. AnswersAsRun a l text old new s) held_calls held_later remaining same_held is as_run;
    } apart e

pub ends_after : (calls : List ℕ) (s : Result Status StreamFault) (r : Result Status ProgramFault) → IsOfCalls s → EndsStream calls s r → EndsAfter calls r
ends_after calls (Ok Good) r apart e = subst (EndsAfter calls) (sym e) tt
ends_after calls (Ok CallsRefused) r apart e = subst (EndsAfter calls) (sym e) tt
ends_after calls (Ok ModuleRefused) r apart e = absurd (apart refl)
ends_after calls (Err stream.Write) r apart e = subst (EndsAfter calls) (sym e) tt
ends_after calls (Err stream.Memory) r apart e = subst (EndsAfter calls) (sym e) tt
ends_after calls (Err stream.Read) (Ok s) apart e = absurd e
ends_after calls (Err stream.Read) (Err (Usage text)) apart e = absurd e
ends_after calls (Err stream.Read) (Err (Unread p reason)) apart e = e.0
ends_after calls (Err stream.Read) (Err SomeUnread) apart e = absurd e
ends_after calls (Err stream.Read) (Err Names) apart e = absurd e
ends_after calls (Err stream.Read) (Err Write) apart e = absurd e
ends_after calls (Err stream.Read) (Err Memory) apart e = absurd e

-- Of a module that is refused.

pub ends_before : (path : List ℕ) (text : Result (String Global) AllocError) (old new : Option (List ℕ)) (r : Result Status ProgramFault) → ShowsText text ModuleRefused old new r → EndsBefore path r
ends_before path (Ok text) old new (Ok s) shown = subst (λ (x : Status). EndsBefore path (Ok x)) (sym shown.0) tt
ends_before path (Ok text) old new (Err Write) shown = tt
ends_before path (Ok text) old new (Err (Usage t)) shown = absurd shown
ends_before path (Ok text) old new (Err (Unread p reason)) shown = absurd shown
ends_before path (Ok text) old new (Err SomeUnread) shown = absurd shown
ends_before path (Ok text) old new (Err Names) shown = absurd shown
ends_before path (Ok text) old new (Err Memory) shown = absurd shown
ends_before path (Err e) old new r (ended, kept) = subst (EndsBefore path) (sym ended) tt

-- its line is shown
line_shown : (held_module held_calls : Option (List ℕ)) (l : Limits) (v : Verdict) (text : Result (String Global) AllocError) (old new : Option (List ℕ)) (r : Result Status ProgramFault)
    → Refuses held_module v → IfOk text (λ t. string_bytes t ≡ verdict_line v) → ShowsText text ModuleRefused old new r → StreamsOn held_module held_calls l old new r
line_shown held_module held_calls l v (Ok text) old new (Ok s) refuses told shown =
    subst (λ (x : Status). StreamsOn held_module held_calls l old new (Ok x)) (sym shown.0) (v, refuses, sym refuses.1, subst (Appends old new) told shown.1)
line_shown held_module held_calls l v (Ok text) old new (Err Write) refuses told shown = inl (v, refuses, subst (AppendsFront old new) told shown)
line_shown held_module held_calls l v (Ok text) old new (Err (Usage t)) refuses told shown = absurd shown
line_shown held_module held_calls l v (Ok text) old new (Err (Unread p reason)) refuses told shown = absurd shown
line_shown held_module held_calls l v (Ok text) old new (Err SomeUnread) refuses told shown = absurd shown
line_shown held_module held_calls l v (Ok text) old new (Err Names) refuses told shown = absurd shown
line_shown held_module held_calls l v (Ok text) old new (Err Memory) refuses told shown = absurd shown
line_shown held_module held_calls l v (Err e) old new r refuses told (ended, kept) = subst (StreamsOn held_module held_calls l old new) (sym ended) (inl kept)

refuses : (held : Option (List ℕ)) (bytes slice : List ℕ) (v : Verdict) → IsRead module_limit held bytes → slice ≡ bytes → IsVerdict slice v → Judges held v
refuses held bytes slice v read same verdict = record { bytes = bytes; read = read; verdict = subst (λ x. IsVerdict x v) same verdict }

pub refused : (held_module held_calls : Option (List ℕ)) (l : Limits) (bytes slice : List ℕ) (f : Refusal) (text : Result (String Global) AllocError) (old new : Option (List ℕ)) (r : Result Status ProgramFault)
    → IsRead module_limit held_module bytes → slice ≡ bytes → IfSome (verdict_of f) (IsVerdict slice) → IfOk text (λ t. IsSomeAnd (verdict_of f) (λ v. string_bytes t ≡ verdict_line v))
    → ShowsText text ModuleRefused old new r → StreamsOn held_module held_calls l old new r
refused held_module held_calls l bytes slice refusal.TooLarge text old new r read same verdict told shown =
    line_shown held_module held_calls l TooLarge text old new r (refuses held_module bytes slice TooLarge read same verdict, refl) told shown
refused held_module held_calls l bytes slice refusal.Malformed text old new r read same verdict told shown =
    line_shown held_module held_calls l Malformed text old new r (refuses held_module bytes slice Malformed read same verdict, refl) told shown
refused held_module held_calls l bytes slice (refusal.Rule k) text old new r read same verdict told shown =
    line_shown held_module held_calls l (RuleBroken k) text old new r (refuses held_module bytes slice (RuleBroken k) read same verdict, refl) told shown
refused held_module held_calls l bytes slice (refusal.Body f c) text old new r read same verdict told shown =
    line_shown held_module held_calls l (BodyRefused f _) text old new r (refuses held_module bytes slice (BodyRefused f _) read same verdict, refl) told shown
refused held_module held_calls l bytes slice refusal.Memory (Ok text) old new r read same verdict told shown = absurd told
refused held_module held_calls l bytes slice refusal.Memory (Err e) old new r read same verdict told (ended, kept) =
    subst (StreamsOn held_module held_calls l old new) (sym ended) (inl kept)
