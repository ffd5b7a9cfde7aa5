use Rattle.std.proofs.Common.{◌≡◌, length}
use Rattle.wcontext.specs.SuffixTree.{IsGatheredFrom}
use Rattle.wcontext.proofs.suffix_tree.Gathered.of.Given as goal

abbrev pub invariant-loop-y : goal.invariant-loop-y
invariant-loop-y l = record { count : length l.gathered.starts.items ≡ l.y; gathered : IsGatheredFrom l.types l.gathered }
