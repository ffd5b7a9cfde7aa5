use Rattle.std.proofs.Common.{◌∙◌, arith}
use Rattle.pieces.proofs.OneWorker.{answering_next}
use Rattle.pieces.proofs.work.run_piece.Goals as goal

pub loop-index-preserved : goal.loop-index-preserved
loop-index-preserved g c =
    let one = c.run_index.ensures in let old = c.loop-index.invariant in
    record {
      at_mark = one.mark.0;
      same = record { access = one.same.access ∙ old.same.access; met = one.same.met ∙ old.same.met };
      parts = one.mark.1 ∙ old.parts;
      local = one.local;
      allowed = c.in_ok-run_index.ensures.allowed;
      answers = λ size n before start. answering_next _ _ _ _ _ _ _ _ _ (omega arith) (old.answers size n before start) c.in_ok-run_index.ensures.answers;
    }
