-- The bytes so far.
use Rattle.std.proofs.Common.{◌≡◌, map, take}
use Rattle.program.specs.FileLines.{taken_bytes}
use Rattle.program.proofs.checking_all.judge_taken.Given as goal

abbrev pub invariant-loop-one : goal.invariant-loop-one
invariant-loop-one g l = map (λ b. b.now) l.modules.items ≡ map taken_bytes (take l.one-index l.taken)
