-- The lines so far.
use Rattle.std.proofs.Common.{take}
use Rattle.batch.specs.Groups.{GiveLines}
use Rattle.batch.proofs.groups.GroupedCallsJob.run.Given as goal

abbrev pub invariant-loop-position : goal.invariant-loop-position
invariant-loop-position g l = GiveLines l.self.runner.accepted.now l.self.runner.settings (take l.position l.group.calls.now) l.lines.items
