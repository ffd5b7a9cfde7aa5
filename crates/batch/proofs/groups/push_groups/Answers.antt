use Rattle.std.proofs.Common.{◌+◌, ◌<◌, ◌≤◌, length, arith, refl}
use Rattle.batch.proofs.GroupedLines.{adds_one}
use Rattle.batch.proofs.groups.push_groups.Goals as goal

pub groups-preserved : goal.groups-preserved
groups-preserved c =
    let order : c.groups.from < c.groups.from + c.min.result = omega (arith, c.min.ensures, c.requires.some) in
    let within : c.groups.from + c.min.result ≤ length c.args.calls.now = omega (arith, c.min.ensures) in
    let items = c.in_ok-push.ensures.items in
    record {
      within = within;
      added = rw items (adds_one c.args.first c.args.calls.now c.groups.from (c.groups.from + c.min.result) c.args.groups.now.items c.groups.groups.items _ order within c.groups.invariant.added refl refl);
    }
