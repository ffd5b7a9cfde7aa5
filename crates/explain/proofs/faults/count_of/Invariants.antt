use Rattle.std.proofs.Common.{◌≡◌, ◌+◌, drop}
use Rattle.wsyntax.specs.Binary.Sections.{locals_of}
use Rattle.explain.proofs.faults.count_of.Given as goal

abbrev pub invariant-loop-run : goal.invariant-loop-run
invariant-loop-run l = l.count + locals_of (drop l.run-index l.runs) ≡ locals_of l.runs
