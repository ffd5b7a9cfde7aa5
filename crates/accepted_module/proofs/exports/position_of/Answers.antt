use Rattle.std.proofs.Common.{rules}
use Rattle.std.specs.Ordering.{nat_cmp}
use Rattle.std.specs.Cmp.Lexicographic.{slice_cmp}
use Rattle.std.proofs.lemmas.List.{get_or_default}
use Rattle.std.proofs.lemmas.Fn.{always_returns_same}
use Rattle.accepted_module.specs.Exports.{name_at}
use Rattle.accepted_module.proofs.SearchedNames.{same_name, none_named}
use Rattle.accepted_module.proofs.exports.position_of.Goals as goal

pub returns-in-Ok : goal.returns-in-Ok
returns-in-Ok c =
    let at = c.in-Ok.ensures.position (λ y. slice_cmp nat_cmp (name_at c.args.exports.now y) c.args.name.now) (always_returns_same _ _ _ (λ a r g q. search rules)) in
    ((c.in-Ok.rank, c.in-Ok.ensures.bound, get_or_default c.args.positions.now c.in-Ok.rank _ 0 c.in-Ok.ensures.bound), same_name _ _ (at 0))

pub returns-in-Err : goal.returns-in-Err
returns-in-Err c =
    none_named (name_at c.args.exports.now) c.args.positions.now c.args.name.now c.in-Err.field-0 c.requires.ascending
    (c.in-Err.ensures.position (λ y. slice_cmp nat_cmp (name_at c.args.exports.now y) c.args.name.now) (always_returns_same _ _ _ (λ a r g q. search rules)))
