use Rattle.std.proofs.Common.{◌≡◌, ◌∙◌, rules, tests}
use Rattle.std.specs.List.{list_any}
use Rattle.std.proofs.lemmas.Iterator.{YieldsList-from_slice}
use Rattle.std.proofs.lemmas.Iterator.Search.{any_from_yields_List}
use Rattle.wsyntax.specs.Execution.Start.{run_has_floats}
use Rattle.checked_body.proofs.Mentions.{any_is}
use Rattle.checked_body.proofs.floats.runs_have_floats.Goals as goal

pub returns : goal.returns
returns c = let e : c.any.result ≡ list_any run_has_floats c.args.runs.now = any_from_yields_List run_has_floats _ _ c.any.result c.any.ensures.ran (YieldsList-from_slice c.args.runs.now (cc)) (λ x b q k. search (rules, tests)) in e ∙ any_is run_has_floats c.args.runs.now
