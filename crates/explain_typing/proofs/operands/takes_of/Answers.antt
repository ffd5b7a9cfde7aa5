use Rattle.std.proofs.Common.{◌∙◌, ap, reverse}
use Rattle.std.proofs.lemmas.Result.{IfOk-weaker}
use Rattle.wsyntax.specs.Modules.{decoded_as}
use Rattle.wcheck.specs.OperandRules.{rule_of}
use Rattle.explain_typing.specs.Typed.{asked}
use Rattle.explain_typing.proofs.Typings.{entered_block, entered_loop, entered_if, ruled}
use Rattle.explain_typing.proofs.operands.takes_of.Goals as goal

pub returns-in-Block : goal.returns-in-Block
returns-in-Block c =
    let now = c.args.checker.now in
    rw c.in-Block.is (IfOk-weaker c.entered.result _ _ (λ o h. h ∙ entered_block now.inside c.in-Block.block now.frames c.in-Some.frame c.in-Some.ensures) c.entered.ensures)

pub returns-in-Loop : goal.returns-in-Loop
returns-in-Loop c =
    let now = c.args.checker.now in
    rw c.in-Loop.is (IfOk-weaker c.entered-in-Loop.result _ _ (λ o h. h ∙ entered_loop now.inside c.in-Loop.block now.frames c.in-Some.frame c.in-Some.ensures) c.entered-in-Loop.ensures)

pub returns-in-If : goal.returns-in-If
returns-in-If c =
    let now = c.args.checker.now in
    rw c.in-If.is (IfOk-weaker c.entered-in-If.result _ _ (λ o h. h ∙ entered_if now.inside c.in-If.block now.frames c.in-Some.frame c.in-Some.ensures) c.entered-in-If.ensures)

pub returns-in_ok-operands-in-Some-rule : goal.returns-in_ok-operands-in-Some-rule
returns-in_ok-operands-in-Some-rule c =
    let now = c.args.checker.now in
    ruled now.inside (decoded_as c.args.targets.now c.args.token) now.frames c.in-Some.frame (rule_of now.outside.types c.in-Some-rule.rule) (reverse c.in_ok-operands-in-Some-rule.operands.items)
    c.in-Some.ensures c.in-Some-rule.ensures (c.in_ok-operands-in-Some-rule.ensures ∙ ap (λ C. asked (rule_of C.types c.in-Some-rule.rule)) c.context.ensures.outside)
