use Rattle.std.proofs.Common.{◌≡◌, ◌≤◌, length, reverse, take}
use Rattle.wsyntax.specs.Types.{same_types}
use Rattle.wcheck.proofs.frames.are_same.Given as goal

abbrev pub invariant-loop-i : goal.invariant-loop-i
invariant-loop-i l =
    (l.i ≤ length l.a) × (same_types (reverse (take l.i l.a)) (reverse (take l.i l.b)) ≡ same_types (reverse l.a) (reverse l.b))

abbrev pub decreases-loop-i : goal.decreases-loop-i
decreases-loop-i l = l.i
