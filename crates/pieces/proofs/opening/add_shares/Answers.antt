use Rattle.std.proofs.Common.{arith, ap}
use Rattle.pieces.proofs.DequeSteps.{forks}
use Rattle.pieces.proofs.MarkSteps.{splits}
use Rattle.pieces.proofs.opening.add_shares.Goals as goal

pub another-pass-requires : goal.another-pass-requires
another-pass-requires c =
    let p = ap (λ v. v.parts) c.loop.invariant.view in let o = ap (λ v. v.owed) c.loop.invariant.view in
    forks _ _ (omega arith) (omega arith)

pub split_seat-theirs-requires : goal.split_seat-theirs-requires
split_seat-theirs-requires c =
    let p = ap (λ m. m.0.parts) c.loop.invariant.me in
    (c.loop.invariant.seat, omega arith, splits _ _ (omega arith))
