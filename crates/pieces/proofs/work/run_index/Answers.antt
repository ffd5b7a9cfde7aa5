use Rattle.std.proofs.Common.{ap, sym, ◌∙◌, arith}
use Rattle.pieces.proofs.OneWorker.{passed_over, ran, ran_lowered}
use Rattle.pieces.proofs.work.run_index.Goals as goal
use Rattle.pieces.proofs.work.run_index.Goals.{then-is_err, else-is_err}

pub returns-then-least-index-clause-answers : goal.returns-then-least-index-clause-answers
returns-then-least-index-clause-answers g c = passed_over _ c.in-Some.least _ _ _ (omega arith) c.in-Some.ensures.call.made

pub returns-clause-answers : goal.returns-clause-answers
returns-clause-answers g c =
    elim c.if-is_err.branch [
      | then-is_err w ↦ ran_lowered _ c.read.result c.run-answer.result _ _ _ _ _ (sym c.is_err.ensures.value ∙ w.if-is_err.true) c.read.ensures.call.made (ap (λ s. s.seat.me.0.made) w.share-is ∙ w.lower.ensures.call.made) c.in_ok-push.ensures.items
      | else-is_err w ↦ ran _ c.read.result c.run-answer.result _ _ _ _ (ap (λ s. s.seat.me.0.made) w.share-is ∙ c.read.ensures.call.made) c.in_ok-push.ensures.items
    ]
