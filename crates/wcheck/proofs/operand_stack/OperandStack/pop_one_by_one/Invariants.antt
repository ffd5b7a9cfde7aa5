use Rattle.std.proofs.Common.{◌≡◌, ◌≤◌, length, reverse, take}
use Rattle.wsyntax.specs.Validation.Algorithm.{pop_all}
use Rattle.wcheck.proofs.operand_stack.OperandStack.pop_one_by_one.Given as goal

abbrev pub invariant-loop-i : goal.invariant-loop-i
invariant-loop-i l =
    (l.i ≤ length l.ts) × (pop_all (reverse (take l.i l.ts)) l.self.above ≡ pop_all (reverse l.ts) l.initial.self.above) × (l.self.below ≡ l.initial.self.below) × (l.self.types ≡ l.initial.self.types)

abbrev pub decreases-loop-i : goal.decreases-loop-i
decreases-loop-i l = l.i
