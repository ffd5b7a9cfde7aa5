use Rattle.std.proofs.Common.{sym, ap}
use Rattle.pieces.proofs.DequeSteps.{adds}
use Rattle.pieces.proofs.opening.add_piece.Goals as goal

pub push_as-requires-clause-pushes : goal.push_as-requires-clause-pushes
push_as-requires-clause-pushes c = let e = c.requires.view in
    adds _ _ _ (ap (λ v. v.parts) e) (ap (λ v. v.owed) e) (ap (λ v. v.met) e) (sym (ap (λ v. v.made) e))
