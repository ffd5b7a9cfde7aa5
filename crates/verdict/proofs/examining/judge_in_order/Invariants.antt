use Rattle.std.proofs.Common.{◌≡◌}
use Rattle.verdict.specs.Parts.{BodiesPass}
use Rattle.verdict.proofs.examining.judge_in_order.Given as goal

abbrev pub invariant-loop-position : goal.invariant-loop-position
invariant-loop-position l = record {
  outside : l.scratch.checker.outside ≡ l.head.context.context;
  passed : BodiesPass l.head l.position;
}
