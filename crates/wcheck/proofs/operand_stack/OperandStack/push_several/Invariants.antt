use Rattle.std.proofs.Common.{◌≡◌, ◌++◌, Some, reverse, map, take}
use Rattle.wcheck.proofs.operand_stack.OperandStack.push_several.Given as goal

abbrev pub invariant-loop-t : goal.invariant-loop-t
invariant-loop-t l =
    (l.self.above.known ≡ map Some (reverse (take l.t-index l.ts)) ++ l.initial.self.above.known) × (l.self.above.is_dead ≡ l.initial.self.above.is_dead) × (l.self.below ≡ l.initial.self.below) × (l.self.types ≡ l.initial.self.types)
