use Rattle.std.proofs.Common.{◌≡◌, length}
use Rattle.verdict.proofs.OnePass.{Leads}
use Rattle.verdict.proofs.passing.tokens_pass.Given as goal

abbrev pub invariant-each : goal.invariant-each
invariant-each l = record {
  outside : l.checker.outside ≡ l.fn.checker.outside;
  inside : l.checker.inside ≡ l.fn.checker.inside;
  leads : Leads l.fn.checker.inside l.fn.checker.frames l.tokens l.checker.frames l.rest;
}

abbrev pub decreases-each : goal.decreases-each
decreases-each l = length l.rest
