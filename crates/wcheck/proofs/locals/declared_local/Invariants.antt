use Rattle.std.proofs.Common.{◌≡◌, ◌-◌, ◌<◌, ◌≤◌, length, slice_get, Some}
use Rattle.wcheck.specs.declared.locals.EndedRun.{EndedRun}
use Rattle.wcheck.proofs.EndedRuns.{looks_from}
use Rattle.wcheck.proofs.locals.declared_local.Given as goal

abbrev pub invariant-loop-low : goal.invariant-loop-low
invariant-loop-low l =
    (l.low ≤ l.high) × (l.high ≤ length l.runs) × looks_from l.x l.low l.runs × ((r : EndedRun) → slice_get l.runs l.high ≡ Some r → l.x < r.end)

abbrev pub decreases-loop-low : goal.decreases-loop-low
decreases-loop-low l = l.high - l.low
