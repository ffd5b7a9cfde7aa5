use Rattle.std.proofs.Common.{sym, subst}
use Rattle.wsyntax.specs.declared.module.Data.{Data}
use Rattle.accepted_module.specs.Segments.{IsOffset, data_offset}
use Rattle.accepted_module.proofs.Words.{one_more}
use Rattle.accepted_module.proofs.offsets.offsets_of_data.Goals as goal

pub offset_of-requires : goal.offset_of-requires
offset_of-requires c = subst (λ (s : Data). IsOffset s.offset) (sym c.segment-item.is) (c.requires c.loop-segment.segment-index c.segment-item.result c.loop-segment-test.true)

pub loop-segment-preserved : goal.loop-segment-preserved
loop-segment-preserved c =
    one_more data_offset c.args.segments.now c.loop-segment.segment-index c.segment-item.result c.loop-segment.offsets.items c.push.new.self.items c.offset_of.result c.segment-item.is c.loop-segment-test.true c.loop-segment.invariant c.offset_of.ensures c.in_ok-push.ensures.items
