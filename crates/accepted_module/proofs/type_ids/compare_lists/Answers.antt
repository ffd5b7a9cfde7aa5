use Rattle.std.proofs.Common.{◌≡◌, refl, rules}
use Rattle.std.specs.Ordering.{nat_cmp}
use Rattle.std.proofs.lemmas.Iterator.{YieldsList-from_slice, YieldsList-from_map}
use Rattle.std.proofs.lemmas.Iterator.Search.{cmp_from_yields_List}
use Rattle.accepted_module.specs.TypeIds.{rank}
use Rattle.accepted_module.proofs.type_ids.compare_lists.Goals as goal

pub returns : goal.returns
returns c =
    cmp_from_yields_List (λ x y. y ≡ x) _ nat_cmp _ c.cmp.ensures.ran
    (YieldsList-from_map _ rank (YieldsList-from_slice c.args.first.now (search rules)) (search rules) (λ x r q k. search rules))
    (λ it e. YieldsList-from_map _ rank (YieldsList-from_slice c.args.second.now (search rules)) (search rules) (λ x r q k. search rules))
    (λ x y. refl)
