use Rattle.std.proofs.Common.{take, ◌<◌}
use Rattle.std.specs.List.{All}
use Rattle.wcontext.proofs.rules.first_unknown.Given as goal

abbrev pub invariant-loop-position : goal.invariant-loop-position
invariant-loop-position l = All (λ y. y < l.count) (take l.position l.indices)
