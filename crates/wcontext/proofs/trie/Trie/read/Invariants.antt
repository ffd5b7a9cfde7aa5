use Rattle.std.proofs.Common.{◌*◌}
use Rattle.wcontext.specs.Trie.{ReadsTo}
use Rattle.wcontext.proofs.trie.Trie.read.Given as goal

abbrev pub invariant-loop-block : goal.invariant-loop-block
invariant-loop-block l = ReadsTo l.fn.lists.items l.trie l.lists.items (l.block * 16)
