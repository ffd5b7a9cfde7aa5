use Rattle.std.proofs.Common.{◌≡◌, map, take}
use Rattle.accepted_module.specs.Segments.{data_offset}
use Rattle.accepted_module.proofs.offsets.offsets_of_data.Given as goal

abbrev pub invariant-loop-segment : goal.invariant-loop-segment
invariant-loop-segment l = l.offsets.items ≡ map data_offset (take l.segment-index l.segments)
