use Rattle.std.proofs.Common.{arith}
use Rattle.wcontext.proofs.check.check_rules_before_code.Goals as goal

pub new-requires-2-clause-imports : goal.new-requires-2-clause-imports
new-requires-2-clause-imports c = c.loop-rule.invariant 2 (omega arith)

pub new-requires-2-clause-functions : goal.new-requires-2-clause-functions
new-requires-2-clause-functions c = c.loop-rule.invariant 3 (omega arith)
