use Rattle.std.proofs.lemmas.Result.{IfOk-weaker}
use Rattle.wstore.specs.CallLimits.{limits_of}
use Rattle.batch.specs.Answers.{IsSomeAnswer}
use Rattle.batch.specs.Whole.{text_of}
use Rattle.batch.proofs.Answered.{line_alone, spelled, refused_module, on_bytes}
use Rattle.batch.proofs.answering.answer_to.Goals as goal

pub returns-in-Ok-clause-answer : goal.returns-in-Ok-clause-answer
returns-in-Ok-clause-answer g c =
    let l = limits_of c.args.settings in
    let spells = spelled c.args.bytes.now c.in-Ok.accepted c.in-Ok.ensures.parts in
    IfOk-weaker c.answer_on.result _ _ (λ a h. on_bytes c.in-Ok.accepted c.args.calls.now l (text_of a) h c.args.bytes.now c.in-Ok.ensures.verdict spells) c.answer_on.ensures.answer

pub returns-in_ok-verdict_line-in-Err-clause-answer : goal.returns-in_ok-verdict_line-in-Err-clause-answer
returns-in_ok-verdict_line-in-Err-clause-answer g c =
    let l = limits_of c.args.settings in
    line_alone (IsSomeAnswer c.args.bytes.now c.args.calls.now l) _ _ c.new.ensures.items
    (refused_module c.args.bytes.now c.args.calls.now l c.in-Err.refusal _ c.in-Err.ensures.verdict c.in_ok-verdict_line-in-Err.ensures)
