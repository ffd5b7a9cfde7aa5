use Rattle.std.proofs.Common.{◌≡◌}
use Rattle.wcontext.specs.Trie.{ReadsBlock}
use Rattle.wcontext.proofs.trie.Trie.read_block.Given as goal

abbrev pub invariant-loop-i : goal.invariant-loop-i
invariant-loop-i l = record { prefixes : l.self.prefixes ≡ l.fn.self.prefixes; read : ReadsBlock l.fn.self.nodes l.self.nodes l.fn.lists l.lists l.base l.i }
