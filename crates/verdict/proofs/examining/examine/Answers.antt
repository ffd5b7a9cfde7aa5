use Rattle.verdict.proofs.Firsts.{refused_so}
use Rattle.verdict.proofs.Parts.{run_judged}
use Rattle.verdict.proofs.examining.examine.Goals as goal

pub returns-in_err-head : goal.returns-in_err-head
returns-in_err-head g c = refused_so _ _ _ c.in_err-head.field-0.0 (let h = c.from_residual.ensures.1 in h) c.in_err-head.ensures

pub returns : goal.returns
returns g c = run_judged c.args.bytes.now c.in_ok-head.head c.judge_parts.result c.in_ok-head.ensures.0 c.in_ok-head.ensures.1 c.judge_parts.ensures
