use Rattle.std.proofs.Common.{◌≡◌, vec_len}
use Rattle.std.specs.Prelude.{All}
use Rattle.verdict.proofs.examining.new_scratches.Given as goal

abbrev pub invariant-loop : goal.invariant-loop
invariant-loop l = (vec_len l.scratches ≡ l.counter) × All (λ s. s.checker.outside ≡ l.head.context.context) l.scratches.items
