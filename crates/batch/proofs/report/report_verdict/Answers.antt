use Rattle.std.proofs.Common.{◌≡◌, ℕ, List, Option, None, Some, Result, Ok, Err, IfErr, subst}
use Rattle.std.specs.Prelude.{IfSome, MatchResult}
use Rattle.std.proofs.lemmas.Option.{same_Some}
use Rattle.wsyntax.specs.Validation.Verdict.{Verdict, Accepted, IsVerdict}
use Rattle.refusal.specs.Refusals.{verdict_of}
use Rattle.refusal.specs.declared.refusal.Refusal.{Refusal}
use Rattle.batch.specs.Output.{FallsShort}
use Rattle.batch.specs.Report.{given_verdict, IsLineOf}
use Rattle.batch.specs.declared.status.Status.{Status}
use Rattle.batch.specs.declared.status.AnswerFault.{AnswerFault}
use Rattle.batch.specs.declared.status.AnswerFault.TheVariants.{Memory, Write}
use Rattle.batch.proofs.report.report_verdict.Goals as goal

-- the verdict that the judge gives is that of the bytes
of_some : (bytes : List ℕ) (given : Option Verdict) → IfSome given (IsVerdict bytes) → (v : Verdict) → given ≡ Some v → IsVerdict bytes v
of_some bytes None h v e = absurd cc
of_some bytes (Some w) h v e = subst (λ (x : Verdict). IsVerdict bytes x) (same_Some w v e) h

of_given : {U : Type 0} (bytes : List ℕ) (judged : Result U Refusal) → MatchResult judged (λ _. IsVerdict bytes Accepted) (λ r. IfSome (verdict_of r) (IsVerdict bytes)) → (v : Verdict) → given_verdict judged ≡ Some v → IsVerdict bytes v
of_given bytes (Ok u) h v e = subst (λ (x : Verdict). IsVerdict bytes x) (same_Some Accepted v e) h
of_given bytes (Err r) h v e = of_some bytes (verdict_of r) h v e

-- so its line is the one that fell short
short_of : (P Q : Verdict → Type 0) (old new : Option (List ℕ)) (r : Result Status AnswerFault) → ((v : Verdict) → P v → Q v) → IfErr r (FallsShort (IsLineOf P) old new) → IfErr r (FallsShort (IsLineOf Q) old new)
short_of P Q old new (Ok s) f h = h
short_of P Q old new (Err Write) f (out, (v, p, is), less) = (out, (v, f v p, is), less)
short_of P Q old new (Err Memory) f h = h

pub returns-clause-fault : goal.returns-clause-fault
returns-clause-fault g c =
    short_of (λ v. given_verdict c.examine-judged.result ≡ Some v) (IsVerdict c.args.bytes.now) _ _ c.write_verdict.result
    (of_given c.args.bytes.now c.examine-judged.result c.examine-judged.ensures) c.write_verdict.ensures.fault
