use Rattle.std.proofs.Common.{◌≡◌, vec_len}
use Rattle.std.specs.Prelude.{All}
use Rattle.verdict.proofs.judging.new_checkers.Given as goal

abbrev pub invariant-loop : goal.invariant-loop
invariant-loop l = (vec_len l.checkers ≡ l.counter) × All (λ s. s.outside ≡ l.context.context) l.checkers.items
