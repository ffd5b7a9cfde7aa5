use Rattle.std.proofs.Common.{◌≡◌, ℕ, List, Option, None, Some, IsSomeAnd, string_bytes, refl, subst, ◌∙◌}
use Rattle.std.specs.Io.KnownBytes.{Appends}
use Rattle.wsyntax.specs.Validation.Verdict.{Verdict}
use Rattle.wsyntax.specs.Texts.Lines.{verdict_line}
use Rattle.batch.specs.declared.status.Status.{Status}
use Rattle.batch.specs.Output.{AppendsLess, FallsShort}
use Rattle.batch.specs.declared.status.AnswerFault.TheVariants.{Write}
use Rattle.batch.specs.Report.{given_verdict, status_of, IsLineOf}
use Rattle.batch.proofs.report.write_verdict.Goals as goal

-- the line that was made for the verdict is the one that was written
written : (given : Option Verdict) (line : List ℕ) (status : Status) (old new : Option (List ℕ)) → IsSomeAnd given (λ v. line ≡ verdict_line v) → Appends old new line
    → ((v : Verdict) → given ≡ Some v → status ≡ status_of v) → (v : Verdict) × (given ≡ Some v) × (status ≡ status_of v) × Appends old new (verdict_line v)
written None line status old new e a s = absurd e
written (Some v) line status old new e a s = (v, refl, s v refl, subst (Appends old new) e a)

-- it is the one that fell short
fell_short : (given : Option Verdict) (line text : List ℕ) (old new : Option (List ℕ)) → IsSomeAnd given (λ v. line ≡ verdict_line v) → text ≡ line → AppendsLess old new text → FallsShort (IsLineOf (λ v. given ≡ Some v)) old new Write
fell_short None line text old new e same a = absurd e
fell_short (Some v) line text old new e same a = (text, (v, refl, same ∙ e), a)

pub returns-in-Ok-write_text-clause-report : goal.returns-in-Ok-write_text-clause-report
returns-in-Ok-write_text-clause-report g c =
    written (given_verdict c.args.judged) (string_bytes c.in-Ok.line) _ _ _ c.in-Ok.ensures (subst (Appends _ _) c.as_bytes.ensures.value c.in-Ok-write_text.ensures.text) c.status.ensures

pub returns-clause-fault : goal.returns-clause-fault
returns-clause-fault g c = fell_short (given_verdict c.args.judged) (string_bytes c.in-Ok.line) _ _ _ c.in-Ok.ensures c.as_bytes.ensures.value c.in-Err.ensures.less
