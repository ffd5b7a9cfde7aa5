use Rattle.std.proofs.Common.{arith}
use Rattle.std.proofs.lemmas.Result.{IfOk-weaker}
use Rattle.wstore.specs.CallLimits.{limits_of}
use Rattle.batch.proofs.Answered.{spelled, refused_module}
use Rattle.batch.proofs.sequential.answer_alone.Goals as goal

-- ---- the answer

pub returns-in-Ok-clause-answer : goal.returns-in-Ok-clause-answer
returns-in-Ok-clause-answer c =
    IfOk-weaker c.answer_on_alone.result _ _ (λ a h. h c.args.bytes.now c.in-Ok.ensures.verdict (spelled c.args.bytes.now c.in-Ok.accepted c.in-Ok.ensures.parts)) c.answer_on_alone.ensures.answer

pub returns-in_ok-verdict_line-in-Err-clause-answer : goal.returns-in_ok-verdict_line-in-Err-clause-answer
returns-in_ok-verdict_line-in-Err-clause-answer c =
    refused_module c.args.bytes.now c.args.calls.now (limits_of c.args.settings) c.in-Err.refusal _ c.in-Err.ensures.verdict c.in_ok-verdict_line-in-Err.ensures

-- ---- every call is safe, however the answer ends

pub returns-in-Ok-clause-never_stuck : goal.returns-in-Ok-clause-never_stuck
returns-in-Ok-clause-never_stuck c =
    (c.answers_are_safe.ensures c.args.bytes.now c.args.calls.now (limits_of c.args.settings) (λ k. omega (arith, c.type_inv.bytes k))).never_stuck

pub returns-in-Ok-clause-typed : goal.returns-in-Ok-clause-typed
returns-in-Ok-clause-typed c =
    (c.answers_are_safe.ensures c.args.bytes.now c.args.calls.now (limits_of c.args.settings) (λ k. omega (arith, c.type_inv.bytes k))).typed

pub returns-in_err-verdict_line-in-Err-clause-never_stuck : goal.returns-in_err-verdict_line-in-Err-clause-never_stuck
returns-in_err-verdict_line-in-Err-clause-never_stuck c =
    (c.answers_are_safe.ensures c.args.bytes.now c.args.calls.now (limits_of c.args.settings) (λ k. omega (arith, c.type_inv.bytes k))).never_stuck

pub returns-in_err-verdict_line-in-Err-clause-typed : goal.returns-in_err-verdict_line-in-Err-clause-typed
returns-in_err-verdict_line-in-Err-clause-typed c =
    (c.answers_are_safe.ensures c.args.bytes.now c.args.calls.now (limits_of c.args.settings) (λ k. omega (arith, c.type_inv.bytes k))).typed

pub returns-in_ok-verdict_line-in-Err-clause-never_stuck : goal.returns-in_ok-verdict_line-in-Err-clause-never_stuck
returns-in_ok-verdict_line-in-Err-clause-never_stuck c =
    (c.answers_are_safe.ensures c.args.bytes.now c.args.calls.now (limits_of c.args.settings) (λ k. omega (arith, c.type_inv.bytes k))).never_stuck

pub returns-in_ok-verdict_line-in-Err-clause-typed : goal.returns-in_ok-verdict_line-in-Err-clause-typed
returns-in_ok-verdict_line-in-Err-clause-typed c =
    (c.answers_are_safe.ensures c.args.bytes.now c.args.calls.now (limits_of c.args.settings) (λ k. omega (arith, c.type_inv.bytes k))).typed
