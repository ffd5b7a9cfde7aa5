use Rattle.std.proofs.Common.{Some, sym, ap, ◌∙◌}
use Rattle.explain_run.proofs.FloatLocations.{body_here, body_later}
use Rattle.explain_run.proofs.starting.float_in_bodies.Goals as goal

pub returns-then-has_floats : goal.returns-then-has_floats
returns-then-has_floats c =
    ap (λ p. Some p) c.float_in_body.ensures
    ∙ sym (c.loop-func.invariant ∙ body_here c.args.bodies.now c.loop-func.func c.index-bodies-func.result c.loop-func-test.true c.index-bodies-func.is (sym c.has_floats.ensures ∙ c.if-has_floats.true))

pub loop-func-preserved : goal.loop-func-preserved
loop-func-preserved c =
    c.loop-func.invariant ∙ body_later c.args.bodies.now c.loop-func.func c.index-bodies-func.result c.loop-func-test.true c.index-bodies-func.is (sym c.has_floats.ensures ∙ c.if-has_floats.false)
