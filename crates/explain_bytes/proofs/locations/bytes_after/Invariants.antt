use Rattle.std.proofs.Common.{◌≡◌, Some}
use Rattle.explain_bytes.specs.Locations.{left_after}
use Rattle.explain_bytes.proofs.locations.bytes_after.Given as goal

abbrev pub invariant-loop-at : goal.invariant-loop-at
invariant-loop-at l = left_after l.at l.bytes ≡ Some l.rest
