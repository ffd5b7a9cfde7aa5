use Rattle.std.proofs.Common.{◌≡◌, Some}
use Rattle.explain_bytes.specs.declared.shell.items.Items.TheVariants.{Bodies}
use Rattle.explain_bytes.specs.Shells.{after_items}
use Rattle.explain_bytes.proofs.bodies.after_bodies.Given as goal

abbrev pub invariant-loop-passed : goal.invariant-loop-passed
invariant-loop-passed l = after_items Bodies l.passed l.bytes ≡ Some l.rest
