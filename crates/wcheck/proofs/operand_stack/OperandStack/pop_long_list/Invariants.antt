use Rattle.std.proofs.Common.{◌≡◌, ◌≤◌, length, reverse, take}
use Rattle.wsyntax.specs.Validation.Algorithm.{pop_all}
use Rattle.wcheck.proofs.operand_stack.OperandStack.pop_long_list.Given as goal

abbrev pub invariant-loop-left : goal.invariant-loop-left
invariant-loop-left l =
    (l.left ≤ length l.ts) × (pop_all (reverse (take l.left l.ts)) l.self.above ≡ pop_all (reverse l.ts) l.initial.self.above) × (l.self.below ≡ l.initial.self.below) × (l.self.types ≡ l.initial.self.types)

abbrev pub decreases-loop-left : goal.decreases-loop-left
decreases-loop-left l = l.left
