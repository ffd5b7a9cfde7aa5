use Rattle.std.proofs.Common.{◌≡◌, ◌≤◌, length, map, take}
use Rattle.wsyntax.specs.Validation.ModuleContext.{declared}
use Rattle.wcheck.specs.LocalRuns.{run_of}
use Rattle.wcheck.proofs.locals.write_declared.Given as goal

abbrev pub invariant-loop-ended : goal.invariant-loop-ended
invariant-loop-ended l =
    (l.written.items ≡ declared (take l.ended-index (map run_of l.runs))) × (length l.written.items ≤ 100000)
