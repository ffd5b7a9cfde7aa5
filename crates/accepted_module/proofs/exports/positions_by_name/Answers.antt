use Rattle.std.proofs.Common.{◌≡◌, ℕ, List, length, Ok, subst, arith, rules}
use Rattle.std.specs.declared.alloc.AllocError.{AllocError}
use Rattle.std.specs.List.{range_with_len}
use Rattle.std.specs.List.Sorted.{IsPermutation}
use Rattle.std.specs.Ordering.{nat_cmp, is_lt}
use Rattle.std.specs.Cmp.Lexicographic.{slice_cmp}
use Rattle.std.proofs.lemmas.Cmp.{nat_list_cmp_total}
use Rattle.std.proofs.lemmas.Fn.{always_returns_same}
use Rattle.std.proofs.lemmas.Iterator.{items_from_collect, YieldsList-from_range}
use Rattle.std.proofs.lemmas.List.Sorted.{ranks_by}
use Rattle.accepted_module.specs.Exports.{name_at}
use Rattle.accepted_module.proofs.exports.positions_by_name.Goals as goal

pub returns-clause-ascending : goal.returns-clause-ascending
returns-clause-ascending c =
    c.sort_unstable_by.ensures.sorted (λ x y. is_lt (slice_cmp nat_cmp (name_at c.args.exports.now x) (name_at c.args.exports.now y)))
    (ranks_by nat_list_cmp_total (name_at c.args.exports.now)) (always_returns_same _ _ _ (λ a r f q. search rules))

pub returns-clause-each : goal.returns-clause-each
returns-clause-each c =
    let n = length c.args.exports.now in
    let is : c.in_ok-positions.positions.items ≡ range_with_len 0 n =
    items_from_collect {E = AllocError} (Ok c.in_ok-positions.positions) c.in_ok-positions.ensures.ran (YieldsList-from_range 0 n n (search rules) (omega arith)) in
    subst (λ (ks : List ℕ). IsPermutation ks c.sort_unstable_by.new.self.items) is c.sort_unstable_by.ensures.permutation
