-- What is told of a module and of a text of calls.
use Rattle.std.proofs.Common.{◌≡◌, ◌≢◌, ℕ, Bool, true, List, Option, Some, None, Result, Ok, Err, IfOk, IfSome, refl, sym, ◌∙◌}
use Rattle.std.specs.Prelude.{IsSomeAnd, string_bytes}
use Rattle.std.specs.declared.alloc.AllocError.{AllocError}
use Rattle.wsyntax.specs.Texts.Calls.{TooLong, BadLine}
use Rattle.wsyntax.specs.Texts.Lines.{verdict_line}
use Rattle.wsyntax.specs.Validation.Verdict.{Verdict, Accepted, TooLarge, Malformed, RuleBroken, BodyRefused, IsVerdict}
use Rattle.batch_text.specs.Calls.{ReadsCalls}
use Rattle.batch_text.specs.declared.fault.CallsFault.{CallsFault}
use Rattle.batch_text.specs.declared.fault.CallsFault.TheVariants as fault
use Rattle.explain.specs.CallsTold.{RefusedBy, TellsBoth, is_refused}
use Rattle.explain_text.specs.Texts.{BeginsWith}
use Rattle.explanation.specs.Told.{verdict_told}
use Rattle.explain.specs.declared.explaining_calls.CallsExplanation.{CallsExplanation}
use Rattle.explain.specs.declared.explaining_calls.Refused.TheVariants.{Module, Calls}

-- the calls of an accepted module

pub bad_calls : (text : List ℕ) (f : CallsFault) → f ≢ fault.Memory → ReadsCalls text (Err f) → RefusedBy text Accepted (Some Calls)
bad_calls text fault.TooLarge some h = (TooLong, h, refl)
bad_calls text (fault.Line k) some h = (BadLine k, h, refl)
bad_calls text fault.Memory some h = absurd (some refl)

-- both

pub both_accepted : (bytes calls : List ℕ) (r : Result CallsExplanation AllocError) → IsVerdict bytes Accepted → IfOk r (λ e. RefusedBy calls Accepted e.refused) → IfOk r (λ e. verdict_told e.explanation ≡ Some Accepted) → IfOk r (λ e. BeginsWith (verdict_line Accepted) (string_bytes e.text))
    → IfOk r (λ e. TellsBoth bytes calls e.refused (verdict_told e.explanation) (string_bytes e.text))
both_accepted bytes calls (Ok e) verdict refused says begins = (Accepted, verdict, refused, says, begins)
both_accepted bytes calls (Err f) verdict refused says begins = tt

by_refusal : (calls : List ℕ) (v : Verdict) → is_refused v ≡ true → RefusedBy calls v (Some Module)
by_refusal calls Accepted is = absurd cc
by_refusal calls TooLarge is = refl
by_refusal calls Malformed is = refl
by_refusal calls (RuleBroken k) is = refl
by_refusal calls (BodyRefused f why) is = refl

-- the verdict that is told is a refusal
pub refusal_is_told : (bytes calls text : List ℕ) (told : Option Verdict) (b : Bool) → IfSome told (IsVerdict bytes) → IsSomeAnd told (λ v. BeginsWith (verdict_line v) text) → ((v : Verdict) → told ≡ Some v → b ≡ is_refused v) → b ≡ true
    → TellsBoth bytes calls (Some Module) told text
refusal_is_told bytes calls text None b verdict begins says is = absurd begins
refusal_is_told bytes calls text (Some v) b verdict begins says is = (v, verdict, by_refusal calls v (sym (says v refl) ∙ is), refl, begins)
