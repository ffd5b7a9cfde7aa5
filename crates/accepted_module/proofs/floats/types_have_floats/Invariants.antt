use Rattle.std.proofs.Common.{◌≡◌, false, take}
use Rattle.wsyntax.specs.Execution.Start.{any, type_has_floats}
use Rattle.accepted_module.proofs.floats.types_have_floats.Given as goal

abbrev pub invariant-loop-index : goal.invariant-loop-index
invariant-loop-index l = any type_has_floats (take l.index l.types) ≡ false
