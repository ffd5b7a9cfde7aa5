use Rattle.std.proofs.Common.{◌≡◌, map, take}
use Rattle.wcheck.specs.LocalRuns.{run_of, AreEnds}
use Rattle.wcheck.proofs.EndedRuns.{last_end}
use Rattle.wcheck.proofs.locals.end_runs.Given as goal

abbrev pub invariant-loop-run : goal.invariant-loop-run
invariant-loop-run l =
    AreEnds 0 l.ended.items × (last_end 0 l.ended.items ≡ l.end) × (map run_of l.ended.items ≡ take l.run-index l.runs)
