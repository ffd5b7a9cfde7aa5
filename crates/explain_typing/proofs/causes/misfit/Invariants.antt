use Rattle.std.proofs.Common.{◌≤◌, length}
use Rattle.explain_typing.proofs.causes.misfit.Given as goal

abbrev pub invariant-loop-position : goal.invariant-loop-position
invariant-loop-position l = l.position ≤ length l.finds
