use Rattle.std.proofs.Common.{◌≡◌}
use Rattle.wcontext.specs.Trie.{ReadsSome}
use Rattle.wcontext.proofs.trie.Trie.read_column.Given as goal

abbrev pub invariant-loop-k : goal.invariant-loop-k
invariant-loop-k l = record { prefixes : l.self.prefixes ≡ l.fn.self.prefixes; read : ReadsSome l.fn.self.nodes l.self.nodes l.fn.lists l.lists l.base l.i l.k }
