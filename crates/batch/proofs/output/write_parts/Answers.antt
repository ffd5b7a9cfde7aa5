use Rattle.std.proofs.Common.{◌≤◌, length, arith}
use Rattle.std.proofs.KnownBytes.{Appends-nil}
use Rattle.batch.proofs.PartsWritten.{part_written, part_failed, all_written, last_failed, or_less}
use Rattle.batch.proofs.output.write_parts.Goals as goal

pub loop-part-init : goal.loop-part-init
loop-part-init g c = Appends-nil _

pub loop-part-preserved : goal.loop-part-preserved
loop-part-preserved g c = part_written c.args.parts.now c.loop-part.part-index c.part-item.result _ _ _ _ c.loop-part-test.true c.part-item.is c.text.ensures c.loop-part.invariant c.in_default.ensures.text

pub returns-in-Err : goal.returns-in-Err
returns-in-Err g c = part_failed c.args.parts.now c.loop-part.part-index c.part-item.result _ c.args.last.now _ _ _ c.loop-part-test.true c.part-item.is c.text.ensures c.loop-part.invariant c.in-Err.ensures.less

pub returns : goal.returns
returns g c =
    let past : length c.args.parts.now ≤ c.loop-part.part-index = omega arith in
    or_less c.write_text-2.result _ _ _ _ _ c.write_text-2.ensures.text c.write_text-2.ensures.less
    (all_written c.args.parts.now c.loop-part.part-index c.args.last.now _ _ _ past c.loop-part.invariant)
    (last_failed c.args.parts.now c.loop-part.part-index c.args.last.now _ _ _ past c.loop-part.invariant)
