use Rattle.std.proofs.Common.{◌≡◌, drop}
use Rattle.wsyntax.specs.Execution.Start.{first_outside}
use Rattle.accepted_module.specs.Segments.{data_segments}
use Rattle.accepted_module.proofs.segments.first_data_outside.Given as goal

abbrev pub invariant-loop-index : goal.invariant-loop-index
invariant-loop-index l = first_outside 0 l.size (data_segments l.segments) ≡ first_outside l.index l.size (drop l.index (data_segments l.segments))
