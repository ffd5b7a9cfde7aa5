use Rattle.std.proofs.Common.{◌≡◌, ◌≤◌, ◌++◌, length, take}
use Rattle.wsyntax.specs.Validation.ModuleContext.{declared}
use Rattle.wcheck.proofs.locals.write_first.Given as goal

abbrev pub invariant-loop-run : goal.invariant-loop-run
invariant-loop-run l =
    (l.expanded.items ≡ l.params ++ declared (take l.run-index l.runs)) × (length l.expanded.items ≤ 256)
