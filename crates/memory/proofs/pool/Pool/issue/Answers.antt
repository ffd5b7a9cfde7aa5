use Rattle.std.proofs.Common.{◌+◌, [], ap, ◌∙◌, arith}
use Rattle.std.specs.Prelude.{true, false}
use Rattle.memory.specs.PoolHistory.{ticket_view}
use Rattle.memory.proofs.PoolSteps.{forks}
use Rattle.memory.proofs.Tickets.{issued_push, issued_next}
use Rattle.memory.proofs.pool.Pool.issue.Goals as goal

pub another-next-requires-clause-rule : goal.another-next-requires-clause-rule
another-next-requires-clause-rule c = forks _ _ (ap (λ v. v.newest) c.loop.invariant.view)

pub loop-preserved : goal.loop-preserved
loop-preserved c = record {
  pass = c.another-next.ensures.queue.1;
  view = c.another-next.ensures.rule.1 ∙ ap (λ n. ticket_view n true [] []) (ap (λ v. v.ticket + 1) c.loop.invariant.view ∙ omega (arith, c.in_ok-push.ensures.len));
  count = omega (arith, c.in_ok-push.ensures.len);
  issued = issued_next c.args.self.now c.loop.tickets.items c.push.new.self.items (record { pass = c.loop.newest }) (record { pass = c.another-next.new.pass }) _ false
      c.in_ok-push.ensures.items c.loop.invariant.issued c.loop.invariant.pass c.another-next.ensures.queue.0 c.loop.invariant.view c.loop.tickets.ok.0 c.another-next.ensures.rule.0;
}

pub returns-clause-issued : goal.returns-clause-issued
returns-clause-issued c =
    issued_push c.args.self.now c.loop.tickets.items c.push-2.new.self.items (record { pass = c.loop.newest }) c.in_ok-push-2.ensures.items c.loop.invariant.issued c.loop.invariant.pass
    (ap (λ v. v.seen) c.loop.invariant.view) (ap (λ v. v.made) c.loop.invariant.view) (ap (λ v. v.ticket) c.loop.invariant.view ∙ c.loop.tickets.ok.0)
