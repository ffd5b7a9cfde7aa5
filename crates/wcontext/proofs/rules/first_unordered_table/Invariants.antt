use Rattle.std.proofs.Common.{take}
use Rattle.std.specs.List.{All}
use Rattle.wsyntax.specs.Validation.Rules.{InOrder}
use Rattle.wcontext.proofs.rules.first_unordered_table.Given as goal

abbrev pub invariant-loop-index : goal.invariant-loop-index
invariant-loop-index l = All (λ t. InOrder t.limits) (take l.index l.spaces.tables.items)
