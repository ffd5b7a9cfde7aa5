use Rattle.std.proofs.Common.{ℕ, List, length, reverse}
use Rattle.wsyntax.specs.Modules.{decoded_as}
use Rattle.wdecode.specs.Gives.{Begins}
use Rattle.wdecode.proofs.Ends.{Reaches}
use Rattle.wdecode.proofs.initial.end_of.Given as goal

abbrev pub invariant-each : goal.invariant-each
invariant-each l = (whole : List ℕ) → Begins whole (decoded_as l.fn.targets.items l.fn.first) l.fn.bytes
    → Reaches whole (reverse l.opened.items) (decoded_as l.targets.items l.token) l.rest

abbrev pub decreases-each : goal.decreases-each
decreases-each l = length l.rest
