-- The verdicts so far.
use Rattle.std.proofs.Common.{map, take}
use Rattle.program.specs.Verdicts.{AreVerdicts}
use Rattle.program.proofs.judging_all.judge_all.Given as goal

abbrev pub invariant-loop-position : goal.invariant-loop-position
invariant-loop-position g l = AreVerdicts (map (λ b. b.now) (take l.position l.modules)) l.verdicts.items
