use Rattle.std.proofs.Common.{◌≡◌, ◌∙◌, rules, tests}
use Rattle.std.specs.List.{list_any}
use Rattle.std.proofs.lemmas.Iterator.{YieldsList-from_slice}
use Rattle.std.proofs.lemmas.Iterator.Search.{any_from_yields_List}
use Rattle.wsyntax.specs.Execution.Start.{is_float}
use Rattle.checked_body.proofs.Mentions.{any_is}
use Rattle.checked_body.proofs.floats.any_is_float.Goals as goal

pub returns : goal.returns
returns c = let e : c.any.result ≡ list_any is_float c.args.types.now = any_from_yields_List is_float _ _ c.any.result c.any.ensures.ran (YieldsList-from_slice c.args.types.now (cc)) (λ x b q k. search (rules, tests)) in e ∙ any_is is_float c.args.types.now
