use Rattle.wsyntax.specs.Elements.{element_of}
use Rattle.accepted_module.specs.Segments.{element_offset}
use Rattle.accepted_module.proofs.ConstantOffsets.{element_has_offset}
use Rattle.accepted_module.proofs.Words.{one_more_read}
use Rattle.accepted_module.proofs.offsets.offsets_of_elements.Goals as goal

pub offset_of-requires : goal.offset_of-requires
offset_of-requires c = element_has_offset c.args.segments.now c.loop-index.index (element_of c.in-Some.segment) c.requires c.in-Some.ensures

pub loop-index-preserved : goal.loop-index-preserved
loop-index-preserved c =
    one_more_read element_offset c.args.segments.now c.loop-index.index (element_of c.in-Some.segment) c.loop-index.offsets.items c.push.new.self.items c.offset_of.result c.in-Some.ensures c.loop-index.invariant c.offset_of.ensures c.in_ok-push.ensures.items
