-- What an explanation says of a module: its verdict.
use Rattle.std.specs.Prelude.{◌≡◌, ℕ, Option, Some, None}
use Rattle.wsyntax.specs.Validation.Verdict.{Verdict, BodyRefused, RuleBroken}
use Rattle.wsyntax.specs.Validation.Verdict as meant
use Rattle.refusal.specs.declared.refusal.BodyRefusal.{BodyRefusal}
use Rattle.refusal.specs.declared.refusal.BodyRefusal.TheVariants as refusal
use Rattle.refusal.specs.Refusals.{fault_of}
use Rattle.explanation.specs.declared.explanation.BodyExplanation.{BodyExplanation}
use Rattle.explanation.specs.declared.explanation.BodyExplanation.TheVariants as fault
use Rattle.explanation.specs.declared.explanation.RefusedFunction.{RefusedFunction}
use Rattle.explanation.specs.declared.explanation.Explanation.{Explanation}
use Rattle.explanation.specs.declared.explanation.Explanation.TheVariants.{Accepted, TooLarge, Malformed, Rule, Body, Memory}

-- why a body is refused, without locations
abbrev pub refusal_told : BodyExplanation → BodyRefusal
refusal_told (fault.Malformed stop unclosed before) = refusal.Malformed
refusal_told (fault.TooManyLocals count) = refusal.TooManyLocals
refusal_told (fault.IllTyped position found typing cause) = refusal.IllTyped position

-- the verdict; out of memory gives none
abbrev pub verdict_told : Explanation → Option Verdict
verdict_told Accepted = Some meant.Accepted
verdict_told (TooLarge bytes) = Some meant.TooLarge
verdict_told (Malformed what) = Some meant.Malformed
verdict_told (Rule k item sign) = Some (RuleBroken k)
verdict_told (Body b) = Some (BodyRefused b.func (fault_of (refusal_told b.fault)))
verdict_told Memory = None

-- it is said of the body of that function, and for that refusal
abbrev pub Tells : ℕ → BodyRefusal → RefusedFunction → Type 0
Tells f r b = (b.func ≡ f) × (refusal_told b.fault ≡ r)
