use Rattle.std.proofs.Common.{◌≡◌, map}
use Rattle.accepted_module.specs.Judgement.{AreChecked}
use Rattle.verdict.specs.Judged.{PassBefore}
use Rattle.verdict.proofs.judging.judge_bodies_alone.Given as goal

abbrev pub invariant-loop-position : goal.invariant-loop-position
invariant-loop-position g l = record {
  outside : l.checker.outside ≡ l.context.context;
  passed : PassBefore l.context.context l.context.imported (map (λ b. b.now) l.bodies) l.position;
  checked : AreChecked l.context.context l.context.imported (map (λ b. b.now) l.bodies) l.position l.kept.items;
}
