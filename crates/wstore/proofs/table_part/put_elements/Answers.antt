use Rattle.std.proofs.Common.{◌≤◌, ◌+◌, refl, map, length, drop, get_or, arith}
use Rattle.wsyntax.specs.Elements.{element_of}
use Rattle.wsyntax.specs.Modules.{element_shape}
use Rattle.wsyntax.specs.Execution.Start.{element_segment}
use Rattle.interpreter.specs.Seen.{entry_of}
use Rattle.accepted_module.specs.Segments.{element_segments}
use Rattle.accepted_module.proofs.FirstOutside.{elements_from}
use Rattle.wstore.proofs.Steps.{element_placed, within_here, within_later, put_elements_here}
use Rattle.wstore.proofs.table_part.put_elements.Goals as goal

pub put_functions-requires : goal.put_functions-requires
put_functions-requires c =
    let offset = get_or c.args.offsets.now c.loop-index.index 0 in
    let placed = element_placed c.args.segments.now c.loop-index.index (element_of c.in-Some.segment) c.args.offsets.now c.requires.placed c.in-Some.ensures in
    let h : offset + length c.in-Some.segment.functions.now ≤ length c.args.entries.now =
    within_here (length c.args.entries.now) offset (length c.in-Some.segment.functions.now) _ _ _ (elements_from c.args.segments.now c.loop-index.index (element_of c.in-Some.segment) c.in-Some.ensures) placed refl c.loop-index.invariant.0
    in omega arith

pub loop-index-preserved : goal.loop-index-preserved
loop-index-preserved c =
    let offset = get_or c.args.offsets.now c.loop-index.index 0 in
    let segment = element_segment (element_shape (element_of c.in-Some.segment)) in
    let placed = element_placed c.args.segments.now c.loop-index.index (element_of c.in-Some.segment) c.args.offsets.now c.requires.placed c.in-Some.ensures in
    let from = elements_from c.args.segments.now c.loop-index.index (element_of c.in-Some.segment) c.in-Some.ensures in (
      within_later (length c.args.entries.now) segment (drop c.loop-index.index (element_segments c.args.segments.now)) (drop (c.loop-index.index + 1) (element_segments c.args.segments.now)) from c.loop-index.invariant.0,
      put_elements_here offset c.in-Some.segment.functions.now segment (element_segments c.args.segments.now) (drop c.loop-index.index (element_segments c.args.segments.now)) (drop (c.loop-index.index + 1) (element_segments c.args.segments.now)) (map entry_of c.args.entries.now) (map entry_of c.loop-index.entries) (map entry_of c.put_functions.new.entries) from placed refl c.put_functions.ensures c.loop-index.invariant.1,
    )
