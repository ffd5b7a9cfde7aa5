use Rattle.std.proofs.Common.{◌≡◌, length, rules}
use Rattle.batch_text.specs.Slices.{joined_calls}
use Rattle.batch.proofs.GroupedLines.{all_parts}
use Rattle.batch.proofs.running.run_groups.Goals as goal

pub returns-in-Ok : goal.returns-in-Ok
returns-in-Ok g c =
    let many : c.len-count.result ≡ length c.in_ok-groups.groups.items = search rules in
    all_parts c.args.accepted.now c.args.settings (joined_calls c.args.sliced.now.slices.items) c.in_ok-groups.groups.items c.deref-2.result.now c.len-count.result c.in-Ok.parts.items
    (rw c.deref.ensures.value at c.in_ok-groups.ensures.groups) c.deref-2.ensures.value many c.in-Ok.ensures
