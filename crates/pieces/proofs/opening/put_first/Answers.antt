use Rattle.std.proofs.Common.{refl, arith}
use Rattle.pieces.proofs.Crews.{crew_of, new_fresh, first_fresh}
use Rattle.pieces.proofs.opening.put_first.Goals as goal

pub returns-clause-crew : goal.returns-clause-crew
returns-clause-crew c = rw c.in_ok-insert.ensures.items
    (crew_of _ _ _ _ _ c.args.workers (refl, c.requires.owner.0) (refl, c.requires.seat.1) c.requires.owner.1 c.requires.seat.0 c.requires.seat.2 refl (omega arith) (omega arith) c.requires.others)

pub returns-clause-fresh : goal.returns-clause-fresh
returns-clause-fresh c =
    (rw c.in_ok-insert.ensures.items (first_fresh _ _ _ c.requires.owner.1 c.requires.seat.2 refl, new_fresh _ _ _ _ c.requires.others), omega (arith, c.in_ok-insert.ensures.len))
