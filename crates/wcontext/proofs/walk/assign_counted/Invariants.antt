use Rattle.std.proofs.Common.{◌≡◌, ℕ, ◌+◌, ◌<◌, ◌≤◌, List, length, drop, get_or}
use Rattle.wsyntax.specs.declared.ValType.{ValType}
use Rattle.wcontext.specs.Lists.{IsSuffix}
use Rattle.wcontext.specs.Nodes.{text, above_at, below_at, IsLinked}
use Rattle.wcontext.specs.Walk.{IsWalk, count_at}
use Rattle.wcontext.proofs.walk.assign_counted.Given as goal

abbrev pub invariant-loop-i : goal.invariant-loop-i
invariant-loop-i l = record {
  size : length l.nodes ≡ length l.fn.nodes;
  some : 0 < l.i;
  kept : (k : ℕ) → l.i ≤ k → get_or l.nodes k record { above = 0; below = 0 } ≡ get_or l.fn.nodes k record { above = 0; below = 0 };
  walk : (texts : List (List ValType)) → IsLinked texts l.fn.nodes → IsWalk (λ a b. IsSuffix (text texts a) (text texts b)) (above_at l.nodes) (λ a. below_at l.nodes a + count_at (drop l.i l.fn.nodes) a) (below_at l.nodes) l.i;
}
