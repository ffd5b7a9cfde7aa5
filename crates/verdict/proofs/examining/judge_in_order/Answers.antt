use Rattle.std.proofs.Common.{arith}
use Rattle.std.proofs.lemmas.List.{length-map}
use Rattle.verdict.specs.Parts.{bodies_of, IsFirstPart}
use Rattle.verdict.proofs.Groups.{pass_more}
use Rattle.verdict.proofs.Parts.{rest_first, body_first}
use Rattle.verdict.proofs.RefusalSteps.{handed_on}
use Rattle.verdict.proofs.examining.judge_in_order.Goals as goal

pub loop-position-preserved : goal.loop-position-preserved
loop-position-preserved c =
    let h = c.args.head.now in
    record {
      outside = c.in_ok-judge_at.ensures.outside;
      passed = pass_more h.context.context h.context.imported (bodies_of h) c.loop-position.position c.loop-position.invariant.passed c.in_ok-judge_at.ensures.verdict;
    }

pub returns-in_err-judge_rest : goal.returns-in_err-judge_rest
returns-in_err-judge_rest c =
    handed_on _ (IsFirstPart c.args.head.now) _ c.in_err-judge_rest.field-0.0 c.from_residual-in_err-judge_rest.ensures.1 (rest_first c.args.head.now c.in_err-judge_rest.field-0.0 c.in_err-judge_rest.ensures)

pub returns-in_err-judge_at : goal.returns-in_err-judge_at
returns-in_err-judge_at c =
    let count = length-map c.args.head.now.front.«module».bodies.items (λ b. b.now) in
    handed_on _ (IsFirstPart c.args.head.now) _ c.in_err-judge_at.field-0.0 c.from_residual-in_err-judge_at.ensures.1
    (body_first c.args.head.now c.loop-position.position c.in_err-judge_at.field-0.0 (omega (arith, count, c.len-position-end.ensures, c.loop-position-test.true)) c.in_ok-judge_rest.ensures c.loop-position.invariant.passed c.in_err-judge_at.ensures.verdict)

pub returns : goal.returns
returns c =
    let count = length-map c.args.head.now.front.«module».bodies.items (λ b. b.now) in
    (c.in_ok-judge_rest.ensures, λ k lt. c.loop-position.invariant.passed k (omega (arith, count, lt, c.len-position-end.ensures, c.loop-position-test.false)))
