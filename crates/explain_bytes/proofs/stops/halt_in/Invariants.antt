use Rattle.std.proofs.Common.{◌≡◌, Some, reverse}
use Rattle.explain_bytes.specs.Locations.{left_after, nested_after}
use Rattle.explain_bytes.proofs.stops.halt_in.Given as goal

abbrev pub invariant-loop-tokens : goal.invariant-loop-tokens
invariant-loop-tokens l = record {
  left : left_after l.tokens l.code ≡ Some l.rest;
  nested : nested_after l.tokens l.code ≡ Some (Some (reverse l.opened.items));
}
