use Rattle.std.proofs.Common.{ap, subst, ◌∙◌}
use Rattle.verdict.specs.OnePass.{Takes}
use Rattle.verdict.proofs.OnePass.{takes_on}
use Rattle.verdict.proofs.passing.tokens_pass.Goals as goal

pub each-preserved-in-Taken : goal.each-preserved-in-Taken
each-preserved-in-Taken c =
    let taken = c.in-Taken.ensures.passes in
    let before = c.each.invariant in
    record {
      outside = ap (λ x. x.outside) taken.4 ∙ before.outside;
      inside = ap (λ x. x.inside) taken.4 ∙ before.inside;
      leads = takes_on c.args.checker.now.inside c.args.checker.now.frames c.args.tokens.now c.each.rest.now c.in-Taken.after.now c.each.checker c.frequent_passes.new.checker before.inside before.leads taken;
    }

pub each-preserved : goal.each-preserved
each-preserved c =
    let taken = subst (λ x. Takes c.each.rest.now x c.any_passes.new.checker c.in-Taken-any_passes.after.now) c.in-Other.ensures.passes c.in-Taken-any_passes.ensures.passes in
    let before = c.each.invariant in
    record {
      outside = ap (λ x. x.outside) taken.4 ∙ before.outside;
      inside = ap (λ x. x.inside) taken.4 ∙ before.inside;
      leads = takes_on c.args.checker.now.inside c.args.checker.now.frames c.args.tokens.now c.each.rest.now c.in-Taken-any_passes.after.now c.each.checker c.any_passes.new.checker before.inside before.leads taken;
    }
