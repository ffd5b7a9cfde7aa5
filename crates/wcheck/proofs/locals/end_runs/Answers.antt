use Rattle.std.proofs.Common.{refl}
use Rattle.wcheck.proofs.EndedRuns.{one_more}
use Rattle.wcheck.proofs.locals.end_runs.Goals as goal

pub loop-run-preserved : goal.loop-run-preserved
loop-run-preserved c =
    one_more c.loop-run.ended.items c.push.new.self.items _ c.loop-run.end c.loop-run.run-index c.args.runs.now _ c.loop-run.invariant.0 c.loop-run.invariant.1 c.loop-run.invariant.2 c.loop-run-test.true c.in_ok-push.ensures.items refl c.capped-end.ensures
