use Rattle.std.proofs.Common.{◌≡◌, drop}
use Rattle.wstore.proofs.ByteLists.{over}
use Rattle.wstore.proofs.bytes.copy_out.Given as goal

abbrev pub invariant-loop-position : goal.invariant-loop-position
invariant-loop-position l = l.out ≡ over l.position (drop l.at l.memory.memory.bytes) l.initial.out
