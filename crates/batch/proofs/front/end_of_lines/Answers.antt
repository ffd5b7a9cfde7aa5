use Rattle.std.proofs.Common.{◌<◌, length, rules}
use Rattle.std.proofs.lemmas.List.{take_rest}
use Rattle.batch.proofs.FrontLines.{line_more}
use Rattle.batch.proofs.front.end_of_lines.Goals as goal

pub loop-preserved : goal.loop-preserved
loop-preserved c =
    let some : 0 < length c.split_before.result.1.now = search rules in
    line_more c.loop.counter c.loop.end c.args.text.now _ c.split_before.result.0.now c.split_before.result.1.now c.loop.invariant (take_rest c.args.text.now c.loop.end) c.split_before.ensures some
