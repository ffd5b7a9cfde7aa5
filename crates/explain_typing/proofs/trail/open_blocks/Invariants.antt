use Rattle.std.proofs.Common.{◌≡◌, length}
use Rattle.explain_typing.specs.Typed.{AreOutermost}
use Rattle.explain_typing.proofs.trail.open_blocks.Given as goal

abbrev pub invariant-loop-position : goal.invariant-loop-position
invariant-loop-position l = record {
  outermost : AreOutermost l.trail.code.now l.trail.start l.trail.opened.items l.outermost.items;
  count : length l.outermost.items ≡ l.position;
}
