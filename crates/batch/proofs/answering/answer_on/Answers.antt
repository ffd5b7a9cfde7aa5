use Rattle.std.proofs.Common.{◌<◌, ◌^◌, length, arith}
use Rattle.batch_text.specs.Slices.{joined_calls}
use Rattle.wstore.specs.CallLimits.{limits_of}
use Rattle.batch.specs.Answers.{IsAnswerFrom}
use Rattle.batch.proofs.Answered.{few_ends, line_alone, refused_calls, report_is}
use Rattle.batch.proofs.answering.answer_on.Goals as goal

pub returns-in-Err-clause-answer : goal.returns-in-Err-clause-answer
returns-in-Err-clause-answer g c =
    let l = limits_of c.args.settings in
    line_alone (IsAnswerFrom c.args.accepted.now c.args.calls.now l) _ _ c.new.ensures.items
    (refused_calls c.args.accepted.now c.args.calls.now l c.in-Err.fault _ c.in-Err.ensures c.in_ok-calls_line-in-Err.ensures)

pub last_line-requires : goal.last_line-requires
last_line-requires g c =
    let calls = joined_calls c.in-Ok.sliced.slices.items in
    let few : length calls < 2 ^ 32 = omega (arith, c.in-Ok.ensures.1) in
    few_ends c.args.accepted.now c.args.settings calls c.in_ok-parts.parts.items c.deref.result.now few c.in_ok-parts.ensures c.deref.ensures.value

pub returns-clause-answer : goal.returns-clause-answer
returns-clause-answer g c =
    report_is c.args.accepted.now c.args.calls.now c.args.settings (joined_calls c.in-Ok.sliced.slices.items) c.in_ok-parts.parts.items c.deref.result.now _
    c.in-Ok.ensures.0 c.in_ok-parts.ensures c.deref.ensures.value c.in_ok-last.ensures
