use Rattle.std.proofs.Common.{◌≡◌, ◌<◌, ◌+◌, drop}
use Rattle.wsyntax.specs.Binary.Sections.{locals_of}
use Rattle.wdecode.proofs.body.count_locals.Given as goal

abbrev pub invariant-loop-run : goal.invariant-loop-run
invariant-loop-run l = record { whole : l.sum + locals_of (drop l.run-index l.runs) ≡ locals_of l.runs; small : l.sum < 4294967296 }
