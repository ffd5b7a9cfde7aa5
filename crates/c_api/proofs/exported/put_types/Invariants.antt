use Rattle.std.proofs.Common.{◌≡◌, ◌++◌, map, take, drop}
use Rattle.c_api.specs.Exported.{type_byte}
use Rattle.c_api.proofs.exported.put_types.Given as goal

abbrev pub invariant-loop-position : goal.invariant-loop-position
invariant-loop-position l = l.out ≡ map type_byte (take l.position l.types) ++ drop l.position l.initial.out
