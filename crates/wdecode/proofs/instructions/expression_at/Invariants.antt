use Rattle.std.proofs.Common.{reverse, length}
use Rattle.wdecode.proofs.OneLoop.{SoFar}
use Rattle.wdecode.proofs.instructions.expression_at.Given as goal

abbrev pub invariant-each : goal.invariant-each
invariant-each l = SoFar l.bytes l.tokens.items l.targets.items (reverse l.opened.items) l.rest

abbrev pub decreases-each : goal.decreases-each
decreases-each l = length l.rest
