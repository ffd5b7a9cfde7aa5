use Rattle.std.proofs.Common.{◌≡◌, ◌++◌}
use Rattle.std.specs.List.{flat_map}
use Rattle.verdict.proofs.judging.joined.Given as goal

abbrev pub invariant-loop-group : goal.invariant-loop-group
invariant-loop-group l = record {
  split : l.fn.groups.items ≡ l.yielded ++ l.group-iterator.rest.items;
  all : l.all.items ≡ flat_map (λ g. g.items) l.yielded;
}
