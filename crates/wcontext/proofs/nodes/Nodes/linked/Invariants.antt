use Rattle.std.proofs.Common.{◌≡◌, ℕ, ◌<◌, length}
use Rattle.wcontext.specs.Nodes.{link_at, above_at}
use Rattle.wcontext.proofs.nodes.Nodes.linked.Given as goal

abbrev pub invariant-loop-i : goal.invariant-loop-i
invariant-loop-i l = record {
  size : length l.nodes.items ≡ length l.fn.self.nodes.items;
  links : (q : ℕ) → q < l.i → above_at l.nodes.items q ≡ link_at l.fn.self.links.items q;
}
