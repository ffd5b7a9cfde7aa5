use Rattle.memory.proofs.PoolSteps.{pushes, learns}
use Rattle.memory.proofs.pool.Pool.add_empty.Goals as goal

pub push_as-requires-clause-rule : goal.push_as-requires-clause-rule
push_as-requires-clause-rule g c = (pushes _ _ _ _, learns _ _)
