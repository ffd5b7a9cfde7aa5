use Rattle.std.proofs.Common.{ℕ, ◌<◌}
use Rattle.wsyntax.specs.Modules.{module_shape}
use Rattle.wsyntax.specs.Validation.Rules.{Keeps}
use Rattle.wcontext.proofs.check.check_rules_before_code.Given as goal

abbrev pub invariant-loop-rule : goal.invariant-loop-rule
invariant-loop-rule l = (k : ℕ) → k < l.rule → Keeps (module_shape l.«module») k
