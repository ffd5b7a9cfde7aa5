use Rattle.std.proofs.Common.{take}
use Rattle.std.specs.List.{All}
use Rattle.wsyntax.specs.Validation.Rules.{WithinRange}
use Rattle.wcontext.proofs.rules.first_unlimited_memory.Given as goal

abbrev pub invariant-loop-index : goal.invariant-loop-index
invariant-loop-index l = All (WithinRange 65536) (take l.index l.spaces.memories.items)
