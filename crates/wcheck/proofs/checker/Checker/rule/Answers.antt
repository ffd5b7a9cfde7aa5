use Rattle.std.proofs.Common.{◌∙◌, ap}
use Rattle.wsyntax.specs.Modules.{decoded_as}
use Rattle.wcheck.specs.Views.{context_at, token_rule}
use Rattle.wcheck.proofs.Labels.{rule_at}
use Rattle.wcheck.proofs.checker.Checker.rule.Goals as goal

pub returns : goal.returns
returns c =
    let some = rw (← c.self.view_is) at c.requires in
    let token = decoded_as c.args.targets.now c.args.token in
    let lent = ap (λ z. token_rule (context_at c.self.inside.scope c.self.inside.control.top z) token) c.deref.ensures.value in
    rw (← c.self.view_is) (rule_at c.self.inside.scope c.self.inside.control token _ some c.self.invariant.types (c.rule_of_token.ensures ∙ lent))
