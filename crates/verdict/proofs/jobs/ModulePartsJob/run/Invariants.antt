use Rattle.std.proofs.Common.{◌≡◌, ℕ, ◌<◌, ◌-◌, None, length}
use Rattle.verdict.specs.Groups.{IsInGroup}
use Rattle.verdict.specs.Heads.{EarlyRulesHold}
use Rattle.verdict.specs.Parts.{bodies_of, body_refusal_in}
use Rattle.verdict.proofs.jobs.ModulePartsJob.run.Given as goal

abbrev pub invariant-loop-position : goal.invariant-loop-position
invariant-loop-position g l = record {
  outside : l.scratch.checker.outside ≡ l.self.head.now.context.context;
  early_hold : EarlyRulesHold l.self.head.now.front l.self.head.now.counts;
  passed : (k : ℕ) → IsInGroup l.self.size (length (bodies_of l.self.head.now)) (l.index - 1) k → k < l.position → body_refusal_in l.self.head.now k ≡ None;
}
