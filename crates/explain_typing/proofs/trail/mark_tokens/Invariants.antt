use Rattle.std.proofs.Common.{◌≡◌, Some, reverse}
use Rattle.explain_bytes.specs.Locations.{left_after}
use Rattle.explain_typing.specs.Typed.{KeepsCode, opened_after}
use Rattle.explain_typing.proofs.trail.mark_tokens.Given as goal

abbrev pub invariant-loop-position : goal.invariant-loop-position
invariant-loop-position l = record {
  left : left_after l.position l.code ≡ Some l.rest;
  same : KeepsCode l.initial.trail l.trail;
  opened : reverse l.trail.opened.items ≡ opened_after l.position l.code;
}
