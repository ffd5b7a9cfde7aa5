use Rattle.std.proofs.Common.{◌≤◌, length, refl, string_bytes, arith}
use Rattle.batch_text.proofs.JoinedParts.{joined_none, joined_more, joined_room, joined_whole, part_more}
use Rattle.batch_text.proofs.reports.last_line.Goals as goal

pub loop-part-init : goal.loop-part-init
loop-part-init c = record {
  joined = λ ends are. joined_none c.args.parts.now _ c.new-total.result ends refl c.new-total.ensures.tally c.new-total.ensures.calls are;
  within = c.new-total.ensures.within;
}

pub loop-part-preserved : goal.loop-part-preserved
loop-part-preserved c = record {
  joined = λ ends are.
      joined_more c.args.parts.now c.loop-part.part-index _ _ c.loop-part.total c.add.new.self ends c.part-item.result c.loop-part-test.true c.part-item.is (c.loop-part.invariant.joined ends are)
      (part_more c.args.parts.now c.loop-part.part-index c.part-item.result c.loop-part-test.true c.part-item.is) c.add.ensures.tally c.add.ensures.calls;
  within = c.add.ensures.within;
}

pub add-requires : goal.add-requires
add-requires c =
    let (ends, are, few) = c.requires in
    let (room, within) = joined_room c.args.parts.now c.loop-part.part-index _ c.loop-part.total ends c.part-item.result c.loop-part-test.true c.part-item.is (c.loop-part.invariant.joined ends are) in
    record {
      room = omega (arith, few, room);
      within = (c.loop-part.invariant.within, within);
    }

pub returns : goal.returns
returns c ends are =
    let past : length c.args.parts.now ≤ c.loop-part.part-index = omega arith in
    joined_whole c.args.parts.now c.loop-part.part-index (string_bytes c.in_ok-line.line) _ c.loop-part.total ends past (c.loop-part.invariant.joined ends are) c.in_ok-line.ensures.bytes c.in_ok-push_line.ensures
