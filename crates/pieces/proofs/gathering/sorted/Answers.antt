use Rattle.std.proofs.Common.{arith, rules}
use Rattle.std.proofs.lemmas.List.Sorted.{IsNonDecreasingBy-from_sort_by_key}
use Rattle.pieces.specs.Gathered.{is_at}
use Rattle.pieces.proofs.AllWorkers.{rises, total-permutation}
use Rattle.pieces.proofs.gathering.sorted.Goals as goal

pub returns-clause-rises : goal.returns-clause-rises
returns-clause-rises g c = rises c.sort_by_key.new.self.items (IsNonDecreasingBy-from_sort_by_key (λ a. a.0) c.sort_by_key.new.self.items c.in_ok-sort_by_key.ensures.sorted (λ a r f' called. search rules))
    (λ i. let t = total-permutation (is_at i) _ _ c.in_ok-sort_by_key.ensures.permutation in let r = c.requires i in omega arith)
