use Rattle.std.proofs.Common.{◌≡◌, max, drop}
use Rattle.c_api.specs.Measures.{type_values, most_by}
use Rattle.c_api.proofs.measures.most_values.Given as goal

abbrev pub invariant-loop-index : goal.invariant-loop-index
invariant-loop-index l = max l.most (most_by type_values (drop l.index l.types)) ≡ most_by type_values l.types
