use Rattle.std.proofs.Common.{◌≡◌, map, take}
use Rattle.accepted_module.specs.Segments.{element_offset}
use Rattle.accepted_module.proofs.offsets.offsets_of_elements.Given as goal

abbrev pub invariant-loop-index : goal.invariant-loop-index
invariant-loop-index l = l.offsets.items ≡ map element_offset (take l.index l.segments)
