use Rattle.std.proofs.Common.{◌≡◌, ◌++◌, reverse, vec_len}
use Rattle.explain_typing.proofs.operands.turned.Given as goal

abbrev pub invariant-loop-operand : goal.invariant-loop-operand
invariant-loop-operand l = l.others.items ++ reverse l.turned.items ≡ l.fn.operands.items

abbrev pub decreases-loop-operand : goal.decreases-loop-operand
decreases-loop-operand l = vec_len l.others
