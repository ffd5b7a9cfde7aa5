use Rattle.std.proofs.Common.{◌≡◌, length, map, drop}
use Rattle.wsyntax.specs.Execution.Allocation.{put_elements, AllWithin}
use Rattle.interpreter.specs.Seen.{entry_of}
use Rattle.accepted_module.specs.Segments.{element_segments}
use Rattle.wstore.proofs.table_part.put_elements.Given as goal

abbrev pub invariant-loop-index : goal.invariant-loop-index
invariant-loop-index l =
    AllWithin (length l.fn.entries) (drop l.index (element_segments l.segments))
    × (put_elements (drop l.index (element_segments l.segments)) (map entry_of l.entries) ≡ put_elements (element_segments l.segments) (map entry_of l.fn.entries))
