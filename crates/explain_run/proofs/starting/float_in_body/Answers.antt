use Rattle.std.proofs.Common.{sym, ap, map, ◌∙◌}
use Rattle.std.specs.Prelude.{position}
use Rattle.wsyntax.specs.Modules.{body_shape, decoded_as}
use Rattle.wsyntax.specs.Execution.Start.{run_has_floats}
use Rattle.explain_run.proofs.FloatLocations.{token_first}
use Rattle.explain_run.proofs.starting.float_in_body.Goals as goal

pub returns-in-None : goal.returns-in-None
returns-in-None c =
    token_first c.args.func (body_shape c.args.body.now.body) c.args.body.now.body.code.targets.items c.tokens.result.now c.unwrap_or.result c.float_token.result
    (ap (map (decoded_as c.args.body.now.body.code.targets.items)) (sym c.tokens.ensures)) (sym c.in-None.is ∙ c.float_run.ensures ∙ ap (position run_has_floats) c.locals.ensures) c.float_token.ensures c.unwrap_or.ensures
