use Rattle.std.proofs.Common.{◌≡◌, Some}
use Rattle.explain_bytes.specs.Shells.{after_items}
use Rattle.explain_bytes.proofs.shell.contents.after_items.Given as goal

abbrev pub invariant-loop-position : goal.invariant-loop-position
invariant-loop-position l = after_items l.items l.position l.bytes ≡ Some l.rest
