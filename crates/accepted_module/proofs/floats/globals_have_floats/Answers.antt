use Rattle.std.proofs.Common.{◌≡◌, ◌∙◌, rules, tests}
use Rattle.std.specs.List.{list_any}
use Rattle.std.proofs.lemmas.Iterator.{YieldsList-from_slice}
use Rattle.std.proofs.lemmas.Iterator.Search.{any_from_yields_List}
use Rattle.wsyntax.specs.Modules.{global_shape}
use Rattle.accepted_module.specs.Floats.{global_has_floats}
use Rattle.accepted_module.proofs.Mentions.{any_shown}
use Rattle.accepted_module.proofs.floats.globals_have_floats.Goals as goal

pub returns : goal.returns
returns c =
    let e : c.any.result ≡ list_any (λ g. global_has_floats (global_shape g)) c.args.globals.now = any_from_yields_List (λ g. global_has_floats (global_shape g)) _ _ c.any.result c.any.ensures.ran (YieldsList-from_slice c.args.globals.now (cc)) (λ x b q k. search (rules, tests)) in
    e ∙ any_shown global_shape global_has_floats c.args.globals.now
