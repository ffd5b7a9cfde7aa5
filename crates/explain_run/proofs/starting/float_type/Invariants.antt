-- No type so far has floats.
use Rattle.std.proofs.Common.{◌≡◌, drop}
use Rattle.std.specs.List.{position_from}
use Rattle.wsyntax.specs.Execution.Start.{type_has_floats}
use Rattle.explain_run.proofs.starting.float_type.Given as goal

abbrev pub invariant-loop-index : goal.invariant-loop-index
invariant-loop-index l = position_from type_has_floats 0 l.types ≡ position_from type_has_floats l.index (drop l.index l.types)
