use Rattle.std.proofs.Common.{◌≤◌, length, arith}
use Rattle.batch.proofs.GroupedLines.{all_given, give_more}
use Rattle.batch.proofs.sequential.lines_alone.Goals as goal

pub loop-call-preserved : goal.loop-call-preserved
loop-call-preserved c =
    let items = c.in_ok-push.ensures.items in
    rw items (give_more c.args.accepted.now c.args.settings c.args.calls.now c.loop-call.call-index c.call-item.result c.loop-call.lines.items _ c.loop-call-test.true c.call-item.is c.loop-call.invariant c.call_alone-line.ensures)

pub returns : goal.returns
returns c =
    let past : length c.args.calls.now ≤ c.loop-call.call-index = omega arith in
    all_given c.args.accepted.now c.args.settings c.args.calls.now c.loop-call.call-index c.loop-call.lines.items past c.loop-call.invariant
