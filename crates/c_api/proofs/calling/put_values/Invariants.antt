use Rattle.std.proofs.Common.{◌≡◌, take}
use Rattle.c_api.specs.Values.{overlay}
use Rattle.c_api.proofs.calling.put_values.Given as goal

abbrev pub invariant-loop-position : goal.invariant-loop-position
invariant-loop-position l = l.results ≡ overlay (take l.position l.values) l.initial.results
