use Rattle.std.proofs.Common.{◌≡◌, ℕ, ◌+◌, ◌*◌, ◌<◌, None, length, map}
use Rattle.verdict.specs.Judged.{body_refusal_at}
use Rattle.verdict.specs.Groups.{IsInGroup, StandFrom}
use Rattle.verdict.proofs.keeping_jobs.KeptBodiesJob.run.Given as goal

abbrev pub invariant-loop-position : goal.invariant-loop-position
invariant-loop-position g l =
    let C = l.self.context.now.context in
    let bodies = map (λ b. b.now) l.self.bodies.now in
    record {
      outside : l.checker.outside ≡ C;
      passed : (k : ℕ) → IsInGroup l.self.size (length bodies) l.index k → k < l.position
          → body_refusal_at C l.self.imported bodies k ≡ None;
      count : l.index * l.self.size + length l.kept.items ≡ l.position;
      each : StandFrom C l.self.imported bodies (l.index * l.self.size) l.kept.items;
    }
