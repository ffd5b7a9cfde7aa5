use Rattle.std.proofs.Common.{◌≡◌, ◌-◌, ◌↔◌, IsTrue, List, All}
use Rattle.wsyntax.specs.Modules.{DataShape}
use Rattle.wsyntax.specs.Binary.Production.{times_at}
use Rattle.wsyntax.specs.Binary.Sections.{data_segment}
use Rattle.wdecode.proofs.Loop.{with_front}
use Rattle.wdecode.proofs.rule.each_passes.Given as goal

abbrev pub invariant-each : goal.invariant-each
invariant-each g l = (done : List DataShape) × (with_front done (times_at data_segment.read (l.count - l.counter) l.rest) ≡ times_at data_segment.read l.count l.initial.rest)
    × (IsTrue l.passes ↔ All (g.R.SegmentRule.holds l.rule) done)
