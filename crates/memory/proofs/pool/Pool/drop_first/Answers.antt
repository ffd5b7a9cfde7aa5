use Rattle.memory.proofs.PoolSteps.{pops, learns}
use Rattle.memory.proofs.pool.Pool.drop_first.Goals as goal

pub pop_as-requires-clause-rule : goal.pop_as-requires-clause-rule
pop_as-requires-clause-rule g c = (pops _ _, learns _ _)
