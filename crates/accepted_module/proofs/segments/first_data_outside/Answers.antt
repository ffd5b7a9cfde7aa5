use Rattle.std.proofs.Common.{refl, sym, subst}
use Rattle.wsyntax.specs.Modules.{data_shape}
use Rattle.wsyntax.specs.Execution.Start.{data_segment}
use Rattle.wsyntax.specs.declared.module.Data.{Data}
use Rattle.accepted_module.specs.Segments.{IsOffset}
use Rattle.accepted_module.proofs.FirstOutside.{outside_here, inside_here, data_from}
use Rattle.accepted_module.proofs.segments.first_data_outside.Goals as goal

pub offset_of-requires : goal.offset_of-requires
offset_of-requires c = subst (λ (s : Data). IsOffset s.offset) (sym c.index-segments-index.is) (c.requires.offsets c.loop-index.index c.index-segments-index.result c.loop-index-test.true)

pub returns-then-not-ends_within : goal.returns-then-not-ends_within
returns-then-not-ends_within c =
    outside_here c.args.size c.offset_of.result _ c.loop-index.index (data_segment (data_shape c.index-segments-index.result)) _ _ _ c.ends_within.result (data_from c.args.segments.now c.loop-index.index c.index-segments-index.result c.index-segments-index.is c.loop-index-test.true) c.offset_of.ensures refl c.ends_within.ensures c.if-not-ends_within.true c.loop-index.invariant

pub loop-index-preserved : goal.loop-index-preserved
loop-index-preserved c =
    inside_here c.args.size c.offset_of.result _ c.loop-index.index (data_segment (data_shape c.index-segments-index.result)) _ _ _ c.ends_within.result (data_from c.args.segments.now c.loop-index.index c.index-segments-index.result c.index-segments-index.is c.loop-index-test.true) c.offset_of.ensures refl c.ends_within.ensures c.if-not-ends_within.false c.loop-index.invariant
