use Rattle.std.proofs.Common.{◌≡◌, ℕ, ◌+◌, ◌<◌, length, get_or}
use Rattle.wsyntax.specs.declared.ValType.{ValType}
use Rattle.wcontext.proofs.trie.Reading.begin.Given as goal

abbrev pub invariant-loop-i : goal.invariant-loop-i
invariant-loop-i l = record {
  types : l.self.types ≡ l.fn.self.types;
  start : l.self.start ≡ l.fn.self.start;
  node : l.self.node ≡ l.fn.self.node;
  nodes : (x : ℕ) → get_or l.self.nodes x 0 ≡ 0;
  size : length l.self.block ≡ 16;
  block : (j : ℕ) (t : ValType) → j < l.i → l.base + j < length l.self.types.now → get_or l.self.block j t ≡ get_or l.self.types.now (l.base + j) t;
}
