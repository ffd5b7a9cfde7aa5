use Rattle.std.proofs.Common.{◌≡◌, vec_len}
use Rattle.unit_tests.proofs.workers.new_counting.Given as goal

abbrev pub invariant-loop : goal.invariant-loop
invariant-loop l = vec_len l.runs ≡ l.counter
