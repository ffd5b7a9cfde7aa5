use Rattle.std.proofs.Common.{◌≡◌}
use Rattle.wcontext.specs.Trie.{PutsPrefixes}
use Rattle.wcontext.proofs.trie.Trie.put_prefixes.Given as goal

abbrev pub invariant-loop-i : goal.invariant-loop-i
invariant-loop-i l = record {
  prefixes : PutsPrefixes l.fn.self.prefixes.items l.self.prefixes.items l.list l.base;
  nodes : l.self.nodes ≡ l.fn.self.nodes;
}
