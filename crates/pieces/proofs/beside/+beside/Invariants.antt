use Prim.Native.Nat.{◌+◌, ◌*◌}
use Rattle.std.specs.Prelude.{length}
use Rattle.pieces.proofs.beside.+beside.Given as goal

-- the items that are left, the functions of one cycle apart
abbrev pub decreases-all_beside : goal.decreases-all_beside
decreases-all_beside g l = 3 * length l.s.now

abbrev pub decreases-last_beside : goal.decreases-last_beside
decreases-last_beside g l = 3 * length l.others.now + 2

abbrev pub decreases-last_beside-ours : goal.decreases-last_beside-ours
decreases-last_beside-ours g l = 3 * length l.others.now + 1
