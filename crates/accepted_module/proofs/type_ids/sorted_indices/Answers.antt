use Rattle.std.proofs.Common.{◌≡◌, ℕ, List, Ok, length, is_lt, refl, subst, arith, rules}
use Rattle.std.specs.declared.alloc.AllocError.{AllocError}
use Rattle.std.specs.List.{range_with_len}
use Rattle.std.specs.List.Sorted.{IsPermutation}
use Rattle.std.proofs.lemmas.Fn.{always_returns_same}
use Rattle.std.proofs.lemmas.Iterator.{items_from_collect, YieldsList-from_range}
use Rattle.std.proofs.lemmas.List.Sorted.{ranks_by}
use Rattle.wsyntax.specs.Validation.ModuleContext.{type_at}
use Rattle.accepted_module.specs.TypeIds.{index_cmp}
use Rattle.accepted_module.proofs.TypeOrder.{func_type_total}
use Rattle.accepted_module.proofs.type_ids.sorted_indices.Goals as goal

pub returns-clause-each : goal.returns-clause-each
returns-clause-each c =
    let all : c.in_ok-indices.indices.items ≡ range_with_len 0 (length c.args.types.now) = items_from_collect {E = AllocError} (Ok c.in_ok-indices.indices) c.in_ok-indices.ensures.ran (YieldsList-from_range 0 c.len.result (length c.args.types.now) refl (omega arith)) in
    subst (λ (xs : List ℕ). IsPermutation xs c.sort_unstable_by.new.self.items) all c.sort_unstable_by.ensures.permutation

pub returns-clause-sorted : goal.returns-clause-sorted
returns-clause-sorted c =
    c.sort_unstable_by.ensures.sorted (λ y z. is_lt (index_cmp c.args.types.now y z))
    (ranks_by func_type_total (type_at c.args.types.now))
    (always_returns_same _ _ _ (λ a r f k. search rules))
