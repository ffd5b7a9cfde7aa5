use Rattle.std.proofs.Common.{List, ℕ, Bor, not, rules, subst}
use Rattle.std.specs.List.Sorted.{IsPermutation}
use Rattle.std.specs.Str.{bytes_eq}
use Rattle.std.proofs.lemmas.Fn.{always_returns_same}
use Rattle.wcontext.proofs.Distinct.{NeighboursDiffer, exports_distinct}
use Rattle.wcontext.proofs.names.are_distinct.Goals as goal

pub returns : goal.returns
returns c =
    let answer = c.is_sorted_by.ensures.cases (λ x y. not (bytes_eq x.now y.now)) (always_returns_same _ _ _ (λ a r f q. search rules)) in
    exports_distinct (λ e. e.name) c.args.exports.now _ c.is_sorted_by.result
    (subst (λ (xs : List (Bor (List ℕ))). IsPermutation xs c.sort_unstable.new.self.items) c.in_ok-put_all.ensures c.sort_unstable.ensures.permutation)
    c.sort_unstable.ensures.sorted
    (subst (λ (ys : List (Bor (List ℕ))). NeighboursDiffer ys c.is_sorted_by.result) c.deref.ensures.value answer)
