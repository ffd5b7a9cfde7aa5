use Rattle.std.proofs.Common.{◌≡◌}
use Rattle.wcontext.specs.Trie.{PutsBlock}
use Rattle.wcontext.proofs.trie.Trie.end_block.Given as goal

abbrev pub invariant-loop-k : goal.invariant-loop-k
invariant-loop-k l = record {
  prefixes : PutsBlock l.fn.self.prefixes.items l.self.prefixes.items l.lists l.base;
  nodes : l.self.nodes ≡ l.fn.self.nodes;
}
