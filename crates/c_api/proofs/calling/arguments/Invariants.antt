use Rattle.std.proofs.Common.{◌≡◌, map, take}
use Rattle.wsyntax.specs.Execution.Values.{AreWords}
use Rattle.c_api.specs.Values.{value_fields}
use Rattle.c_api.proofs.calling.arguments.Given as goal

abbrev pub invariant-loop-number : goal.invariant-loop-number
invariant-loop-number l = (map value_fields l.values.items ≡ take l.number-index l.numbers) × AreWords l.values.items
