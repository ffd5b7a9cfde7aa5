use Rattle.std.proofs.Common.{◌≡◌, ◌++◌}
use Rattle.pieces.specs.TryAll.{Results}
use Rattle.pieces.proofs.trying.results.Given as goal

abbrev pub invariant-loop-index : goal.invariant-loop-index
invariant-loop-index g l = record {
  split : l.fn.answers.items ≡ l.yielded ++ l.index-iterator.rest.items;
  results : Results l.yielded l.outs.items;
}
