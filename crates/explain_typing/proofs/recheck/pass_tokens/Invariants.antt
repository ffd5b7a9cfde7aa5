use Rattle.std.proofs.Common.{◌≡◌, Some, reverse}
use Rattle.explain_bytes.specs.Locations.{left_after}
use Rattle.explain_typing.specs.Typed.{ArePassed, KeepsCode, PassesTo, opened_after}
use Rattle.explain_typing.proofs.recheck.pass_tokens.Given as goal

abbrev pub invariant-loop-position : goal.invariant-loop-position
invariant-loop-position l = record {
  last : ArePassed l.body l.start l.count l.position l.passed.items;
  left : left_after l.position l.code ≡ Some l.rest;
  passed : PassesTo l.initial.checker l.code l.position l.checker;
  same : KeepsCode l.initial.trail l.trail;
  opened : reverse l.trail.opened.items ≡ opened_after l.position l.code;
}
