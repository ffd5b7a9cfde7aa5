use Rattle.wstore.specs.CallLimits.{limits_of}
use Rattle.batch.proofs.Answered.{on_bytes, refused_calls, report_on}
use Rattle.batch.proofs.sequential.answer_on_alone.Goals as goal

pub returns-in-Err-clause-held : goal.returns-in-Err-clause-held
returns-in-Err-clause-held c =
    refused_calls c.args.accepted.now c.args.calls.now (limits_of c.args.settings) c.in-Err.fault _ c.in-Err.ensures.said c.in_ok-calls_line-in-Err.ensures

pub returns-in-Err-clause-answer : goal.returns-in-Err-clause-answer
returns-in-Err-clause-answer c = on_bytes c.args.accepted.now c.args.calls.now (limits_of c.args.settings) _ (returns-in-Err-clause-held c)

pub returns-clause-held : goal.returns-clause-held
returns-clause-held c =
    report_on c.args.accepted.now c.args.calls.now c.args.settings c.in-Ok.read.items c.deref.result.now c.in_ok-lines.lines.items c.deref-2.result.now _
    c.in-Ok.ensures.said c.deref.ensures.value c.in_ok-lines.ensures c.deref-2.ensures.value c.in_ok-report.ensures

pub returns-clause-answer : goal.returns-clause-answer
returns-clause-answer c = on_bytes c.args.accepted.now c.args.calls.now (limits_of c.args.settings) _ (returns-clause-held c)
