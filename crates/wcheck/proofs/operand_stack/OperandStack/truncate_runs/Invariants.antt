use Rattle.std.proofs.Common.{◌≡◌, ◌+◌, ◌-◌, drop, length}
use Rattle.wcheck.proofs.operand_stack.OperandStack.truncate_runs.Given as goal

abbrev pub invariant-loop-self : goal.invariant-loop-self
invariant-loop-self l = record {
  known : drop (length l.initial.self.below + length l.self.above.known - l.height) l.self.above.known ≡ drop (length l.initial.self.below + length l.initial.self.above.known - l.height) l.initial.self.above.known;
  dead : l.self.above.is_dead ≡ l.initial.self.above.is_dead;
  below : l.self.below ≡ l.initial.self.below;
  types : l.self.types ≡ l.initial.self.types;
}

abbrev pub decreases-loop-self : goal.decreases-loop-self
decreases-loop-self l = length l.self.above.known
