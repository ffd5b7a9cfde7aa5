use Rattle.std.proofs.Common.{◌∙◌, Option, Some, None, IsSomeAnd, inr}
use Rattle.wsyntax.specs.Validation.Verdict.{Verdict}
use Rattle.batch.specs.Report.{given_verdict}
use Rattle.c_api.proofs.exports.gate_verdict_line.Goals as goal

-- two facts on one verdict
both : (P Q : Verdict → Type 0) (given : Option Verdict) → IsSomeAnd given P → IsSomeAnd given Q → (v : Verdict) × P v × Q v
both P Q None p q = absurd p
both P Q (Some v) p q = (v, p, q)

pub returns : goal.returns
returns c =
    let (v, of, line) = both _ _ (given_verdict c.in-Some.judged) c.in-Some.ensures.some c.in-Ok.ensures in
    inr (c.as_bytes.result.now, (v, of.0, of.1, c.as_bytes.ensures.value ∙ line), c.hand_text.ensures)
