use Rattle.std.proofs.Common.{◌≡◌, ◌≤◌, ◌+◌, ◌∙◌, ap, refl, length, drop, get_or, arith}
use Rattle.wsyntax.specs.Modules.{data_shape}
use Rattle.wsyntax.specs.Execution.Start.{data_segment}
use Rattle.wsyntax.specs.Execution.Allocation.{overwrite}
use Rattle.wstore.proofs.Buffers.{replaced_twice}
use Rattle.wstore.proofs.Lists.{length-overwrite}
use Rattle.accepted_module.specs.Segments.{data_segments}
use Rattle.accepted_module.proofs.FirstOutside.{data_from}
use Rattle.wstore.proofs.Steps.{data_placed, within_here, within_later, put_data_here}
use Rattle.wstore.proofs.memory_part.put_data.Goals as goal

pub overwrite-requires : goal.overwrite-requires
overwrite-requires c =
    let offset = get_or c.args.offsets.now c.loop-index.index 0 in
    let placed = data_placed c.args.segments.now c.loop-index.index c.index-segments-index.result c.args.offsets.now c.requires.placed c.index-segments-index.is c.loop-index-test.true in
    let h : offset + length c.index-segments-index.result.bytes.now ≤ length c.args.memory.now.memory.bytes =
    within_here (length c.args.memory.now.memory.bytes) offset (length c.index-segments-index.result.bytes.now) _ _ _ (data_from c.args.segments.now c.loop-index.index c.index-segments-index.result c.index-segments-index.is c.loop-index-test.true) placed refl c.loop-index.invariant.within
    in omega arith

pub loop-index-preserved : goal.loop-index-preserved
loop-index-preserved c =
    let offset = get_or c.args.offsets.now c.loop-index.index 0 in
    let placed = data_placed c.args.segments.now c.loop-index.index c.index-segments-index.result c.args.offsets.now c.requires.placed c.index-segments-index.is c.loop-index-test.true in
    let from = data_from c.args.segments.now c.loop-index.index c.index-segments-index.result c.index-segments-index.is c.loop-index-test.true in
    let h : offset + length c.index-segments-index.result.bytes.now ≤ length c.args.memory.now.memory.bytes =
    within_here (length c.args.memory.now.memory.bytes) offset (length c.index-segments-index.result.bytes.now) _ _ _ from placed refl c.loop-index.invariant.within in
    let long : length c.loop-index.memory.memory.bytes ≡ length c.args.memory.now.memory.bytes = c.loop-index.invariant.long in
    let wrote : c.overwrite.new.self.memory.bytes ≡ overwrite offset c.index-segments-index.result.bytes.now c.loop-index.memory.memory.bytes = ap (λ b. b.memory.bytes) c.overwrite.ensures in
    record {
      same = replaced_twice c.args.memory.now c.loop-index.memory c.overwrite.new.self _ c.loop-index.invariant.same c.overwrite.ensures;
      long = ap length wrote ∙ length-overwrite offset c.index-segments-index.result.bytes.now c.loop-index.memory.memory.bytes (omega arith) ∙ long;
      within = within_later (length c.args.memory.now.memory.bytes) (data_segment (data_shape c.index-segments-index.result)) (drop c.loop-index.index (data_segments c.args.segments.now)) (drop (c.loop-index.index + 1) (data_segments c.args.segments.now)) from c.loop-index.invariant.within;
      put = put_data_here offset (data_segment (data_shape c.index-segments-index.result)) (data_segments c.args.segments.now) (drop c.loop-index.index (data_segments c.args.segments.now)) (drop (c.loop-index.index + 1) (data_segments c.args.segments.now)) c.args.memory.now.memory.bytes c.loop-index.memory.memory.bytes c.overwrite.new.self.memory.bytes from placed wrote c.loop-index.invariant.put;
    }
