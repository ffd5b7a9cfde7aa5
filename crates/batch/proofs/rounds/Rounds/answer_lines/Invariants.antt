-- What is gone from the text is answered.
use Rattle.std.proofs.Common.{◌≡◌, ℕ, List, ◌++◌, length}
use Rattle.wstore.specs.CallLimits.{limits_of}
use Rattle.batch.specs.Streams.{Advances}
use Rattle.batch.proofs.rounds.Rounds.answer_lines.Given as goal

abbrev pub invariant-rounds : goal.invariant-rounds
invariant-rounds g l =
    (done : List ℕ) × (l.text ≡ done ++ l.rest) × Advances l.self.accepted.now (limits_of l.self.settings) done l.initial.progress.tally l.progress.tally (g.O.Write.contents l.initial.out) (g.O.Write.contents l.out)

abbrev pub decreases-rounds : goal.decreases-rounds
decreases-rounds g l = length l.rest
