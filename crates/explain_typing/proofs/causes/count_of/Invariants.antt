use Rattle.std.proofs.Common.{◌≤◌, ◌-◌}
use Rattle.explain_typing.specs.Causes.{size_of}
use Rattle.explain_typing.proofs.causes.count_of.Given as goal

abbrev pub invariant-loop-low : goal.invariant-loop-low
invariant-loop-low l = record {
  least : l.low ≤ size_of l.space l.checker.inside l.checker.frames;
  most : size_of l.space l.checker.inside l.checker.frames ≤ l.high;
}

abbrev pub decreases-loop-low : goal.decreases-loop-low
decreases-loop-low l = l.high - l.low
