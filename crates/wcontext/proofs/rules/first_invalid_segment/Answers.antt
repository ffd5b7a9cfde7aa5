use Rattle.wsyntax.specs.Modules.{ModuleShape, module_shape, data_shape}
use Rattle.wsyntax.specs.Validation.Rules.{DataValid}
use Rattle.wcontext.proofs.Counted.{segment_tested}
use Rattle.wcontext.proofs.Firsts.{each_shape, first_here, item_got, right_here}
use Rattle.wcontext.proofs.rules.first_invalid_segment.Goals as goal

pub returns-then-not-takes_segment : goal.returns-then-not-takes_segment
returns-then-not-takes_segment c =
    let m : ModuleShape = module_shape c.args.module.now in
    let got = item_got c.deref-segment-items.result.now c.loop-position.position c.segment-item.result c.segment-item.is c.loop-position-test.true in
    let test = segment_tested c.requires (data_shape c.segment-item.result) _ c.takes_segment.ensures in
    first_here data_shape (DataValid m) c.deref-segment-items.result.now _ c.loop-position.position c.segment-item.result _ c.deref-segment-items.ensures.value got test c.if-not-takes_segment.true c.loop-position.invariant

pub loop-position-preserved : goal.loop-position-preserved
loop-position-preserved c =
    let m : ModuleShape = module_shape c.args.module.now in
    let got = item_got c.deref-segment-items.result.now c.loop-position.position c.segment-item.result c.segment-item.is c.loop-position-test.true in
    let test = segment_tested c.requires (data_shape c.segment-item.result) _ c.takes_segment.ensures in
    right_here (λ d. DataValid m (data_shape d)) c.deref-segment-items.result.now _ c.loop-position.position c.segment-item.result _ c.deref-segment-items.ensures.value got test c.if-not-takes_segment.false c.loop-position.invariant

pub returns : goal.returns
returns c =
    let m : ModuleShape = module_shape c.args.module.now in
    each_shape data_shape (DataValid m) c.deref-segment-items.result.now _ c.loop-position.position c.deref-segment-items.ensures.value c.loop-position-test.false c.loop-position.invariant
