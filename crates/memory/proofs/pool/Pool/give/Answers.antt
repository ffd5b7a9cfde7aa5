use Rattle.std.proofs.Common.{◌∙◌}
use Rattle.memory.specs.Pools.{capacity_of, view_of, DropsFirst}
use Rattle.memory.proofs.PoolSteps.{pushes, learns}
use Rattle.memory.proofs.Repeated.{once_more}
use Rattle.memory.proofs.pool.Pool.give.Goals as goal

pub push_as-requires-clause-rule : goal.push_as-requires-clause-rule
push_as-requires-clause-rule g c = (pushes _ _ _ _, learns _ _)

pub loop-preserved : goal.loop-preserved
loop-preserved g c = (
  c.drop_first.ensures.ticket,
  c.in-Err.ensures.rule.0 ∙ c.loop.invariant.1,
  once_more (DropsFirst (capacity_of c.args.self.now)) _ _ _ (view_of c.drop_first.new.ticket) c.loop.invariant.2 c.in-Err.ensures.rule.1
      c.drop_first.ensures.dropped,
)
