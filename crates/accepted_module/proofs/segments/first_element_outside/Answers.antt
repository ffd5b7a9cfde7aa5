use Rattle.std.proofs.Common.{refl}
use Rattle.wsyntax.specs.Elements.{element_of}
use Rattle.wsyntax.specs.Modules.{element_shape}
use Rattle.wsyntax.specs.Execution.Start.{element_segment}
use Rattle.accepted_module.proofs.ConstantOffsets.{element_has_offset}
use Rattle.accepted_module.proofs.FirstOutside.{outside_here, inside_here, elements_from}
use Rattle.accepted_module.proofs.segments.first_element_outside.Goals as goal

pub offset_of-requires : goal.offset_of-requires
offset_of-requires c = element_has_offset c.args.segments.now c.loop-index.index (element_of c.in-Some.segment) c.requires.offsets c.in-Some.ensures

pub returns-then-not-ends_within : goal.returns-then-not-ends_within
returns-then-not-ends_within c =
    outside_here c.args.size c.offset_of.result _ c.loop-index.index (element_segment (element_shape (element_of c.in-Some.segment))) _ _ _ c.ends_within.result (elements_from c.args.segments.now c.loop-index.index (element_of c.in-Some.segment) c.in-Some.ensures) c.offset_of.ensures refl c.ends_within.ensures c.if-not-ends_within.true c.loop-index.invariant

pub loop-index-preserved : goal.loop-index-preserved
loop-index-preserved c =
    inside_here c.args.size c.offset_of.result _ c.loop-index.index (element_segment (element_shape (element_of c.in-Some.segment))) _ _ _ c.ends_within.result (elements_from c.args.segments.now c.loop-index.index (element_of c.in-Some.segment) c.in-Some.ensures) c.offset_of.ensures refl c.ends_within.ensures c.if-not-ends_within.false c.loop-index.invariant
