use Rattle.memory.specs.Pools.{view_of, AddsEmpty}
use Rattle.memory.proofs.PoolSteps.{pops, learns}
use Rattle.memory.proofs.Repeated.{once_more}
use Rattle.memory.proofs.pool.Pool.lend.Goals as goal

pub pop_as-requires-clause-rule : goal.pop_as-requires-clause-rule
pop_as-requires-clause-rule g c = (pops _ _, learns _ _)

pub loop-preserved : goal.loop-preserved
loop-preserved g c = (
  c.add_empty.ensures.ticket,
  once_more AddsEmpty _ _ _ (view_of c.add_empty.new.ticket) c.loop.invariant.1 c.in-None-pop_as.ensures.rule.0 c.add_empty.ensures.added,
)
