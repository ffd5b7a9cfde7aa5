use Rattle.std.proofs.Common.{◌≡◌, map, take, Some}
use Rattle.explain_typing.proofs.operands.listed.Given as goal

abbrev pub invariant-loop-of_type : goal.invariant-loop-of_type
invariant-loop-of_type l = l.operands.items ≡ map Some (take l.of_type-index l.types)
