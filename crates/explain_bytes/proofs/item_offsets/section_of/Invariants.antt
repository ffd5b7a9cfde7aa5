use Rattle.std.proofs.Common.{◌≡◌, Some}
use Rattle.explain_bytes.specs.Shells.{after_sections}
use Rattle.explain_bytes.proofs.item_offsets.section_of.Given as goal

abbrev pub invariant-loop-passed : goal.invariant-loop-passed
invariant-loop-passed l = after_sections l.passed l.bytes ≡ Some l.rest
