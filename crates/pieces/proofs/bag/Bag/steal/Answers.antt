use Rattle.std.proofs.Common.{◌≤◌, length, arith}
use Rattle.pieces.proofs.DequeSteps.{takes, never_empty}
use Rattle.pieces.proofs.bag.Bag.steal.Goals as goal

pub steal_as-requires-clause-takes : goal.steal_as-requires-clause-takes
steal_as-requires-clause-takes g c = takes _ _ (rw c.loop.invariant.1 c.requires.part.0) (rw c.loop.invariant.1 c.requires.part.1)

pub steal_as-requires-clause-empty : goal.steal_as-requires-clause-empty
steal_as-requires-clause-empty g c = λ items views few h at.
    let none : length items ≤ 0 = let z = c.args.self.now.in_order in omega arith in
    never_empty _ _ (rw c.loop.invariant.1 c.requires.part.1) items views none h at
