use Rattle.std.proofs.Common.{◌≡◌, drop}
use Rattle.wsyntax.specs.Execution.Start.{first_outside}
use Rattle.accepted_module.specs.Segments.{element_segments}
use Rattle.accepted_module.proofs.segments.first_element_outside.Given as goal

abbrev pub invariant-loop-index : goal.invariant-loop-index
invariant-loop-index l = first_outside 0 l.size (element_segments l.segments) ≡ first_outside l.index l.size (drop l.index (element_segments l.segments))
