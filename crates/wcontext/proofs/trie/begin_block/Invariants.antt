use Rattle.std.proofs.Common.{List, length}
use Rattle.std.specs.List.{All, AllWithin}
use Rattle.wsyntax.specs.declared.ValType.{ValType}
use Rattle.wcontext.specs.Trie.{IsReading, IsInBlock}
use Rattle.wcontext.proofs.trie.begin_block.Given as goal

abbrev pub invariant-loop-k : goal.invariant-loop-k
invariant-loop-k l = (all texts : List (List ValType)) → All (IsReading all texts l.base) l.fn.lists
    → AllWithin (IsInBlock all texts l.base l.base) l.lists 0 l.k × AllWithin (IsReading all texts l.base) l.lists l.k (length l.lists)
