use Rattle.std.proofs.Common.{◌≡◌, length}
use Rattle.batch.proofs.Batches.{all_end}
use Rattle.batch.proofs.running.run_batch.Goals as goal

pub returns-in-Ok-try_all-clause-ends : goal.returns-in-Ok-try_all-clause-ends
returns-in-Ok-try_all-clause-ends g c =
    let count : c.in-Ok.count ≡ length c.args.calls.now = c.in-Ok.ensures.1 in
    all_end c.args.accepted.now c.args.settings c.args.calls.now c.in-Ok.count c.in-Ok-try_all.lines.items count c.in-Ok-try_all.ensures
