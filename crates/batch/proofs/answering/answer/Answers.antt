use Rattle.std.proofs.Common.{arith}
use Rattle.wstore.specs.CallLimits.{limits_of}
use Rattle.batch.specs.Answers.{IsSomeAnswer}
use Rattle.batch.proofs.Answered.{fell_short, front_of}
use Rattle.batch.proofs.answering.answer.Goals as goal

-- ---- every call is safe, however the answer ends

pub returns-in_default-clause-never_stuck : goal.returns-in_default-clause-never_stuck
returns-in_default-clause-never_stuck g c =
    let s = c.args.settings in
    (c.answers_are_safe.ensures c.args.bytes.now c.args.calls.now (limits_of s) (λ k. omega (arith, c.type_inv.bytes k))).never_stuck

pub returns-in_default-clause-typed : goal.returns-in_default-clause-typed
returns-in_default-clause-typed g c =
    let s = c.args.settings in
    (c.answers_are_safe.ensures c.args.bytes.now c.args.calls.now (limits_of s) (λ k. omega (arith, c.type_inv.bytes k))).typed

pub returns-in-Ok-write_parts-clause-never_stuck : goal.returns-in-Ok-write_parts-clause-never_stuck
returns-in-Ok-write_parts-clause-never_stuck g c =
    let s = c.args.settings in
    (c.answers_are_safe.ensures c.args.bytes.now c.args.calls.now (limits_of s) (λ k. omega (arith, c.type_inv.bytes k))).never_stuck

pub returns-in-Ok-write_parts-clause-typed : goal.returns-in-Ok-write_parts-clause-typed
returns-in-Ok-write_parts-clause-typed g c =
    let s = c.args.settings in
    (c.answers_are_safe.ensures c.args.bytes.now c.args.calls.now (limits_of s) (λ k. omega (arith, c.type_inv.bytes k))).typed

pub returns-clause-never_stuck : goal.returns-clause-never_stuck
returns-clause-never_stuck g c =
    let s = c.args.settings in
    (c.answers_are_safe.ensures c.args.bytes.now c.args.calls.now (limits_of s) (λ k. omega (arith, c.type_inv.bytes k))).never_stuck

pub returns-clause-typed : goal.returns-clause-typed
returns-clause-typed g c =
    let s = c.args.settings in
    (c.answers_are_safe.ensures c.args.bytes.now c.args.calls.now (limits_of s) (λ k. omega (arith, c.type_inv.bytes k))).typed

-- ---- a write that failed

pub returns-clause-fault : goal.returns-clause-fault
returns-clause-fault g c =
    let s = c.args.settings in
    fell_short (IsSomeAnswer c.args.bytes.now c.args.calls.now (limits_of s)) _ _ _ _ _ _ c.in-Ok.ensures.answer c.deref.ensures.value c.as_bytes.ensures.value c.in-Err.ensures

pub returns-clause-answer : goal.returns-clause-answer
returns-clause-answer g c =
    let s = c.args.settings in
    front_of (IsSomeAnswer c.args.bytes.now c.args.calls.now (limits_of s)) _ _ (returns-clause-fault g c)
