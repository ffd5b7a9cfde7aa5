-- A step of an instruction whose operands are known to be there.
use Rattle.std.proofs.Common.{◌≡◌, Bool, true, List, [], ◌∷◌, reverse, Option, Some, sym, ap, ◌∙◌}
use Rattle.std.specs.Prelude.{cond}
use Rattle.wsyntax.specs.declared.ValType.{ValType}
use Rattle.wsyntax.specs.Types.{FuncType}
use Rattle.wsyntax.specs.Instructions.{Token}
use Rattle.wsyntax.specs.Validation.Algorithm.{Operands, apply, step}
use Rattle.wcheck.specs.declared.frames.ControlFrame.{ControlFrame}
use Rattle.wcheck.specs.declared.frames.OuterFrame.{OuterFrame}
use Rattle.wcheck.specs.declared.rule.OperandRule.{OperandRule}
use Rattle.wcheck.specs.declared.scope.Scope.{Scope}
use Rattle.wcheck.specs.OperandRules.{rule_of}
use Rattle.wcheck.specs.Views.{scope_context, context_at, frame_of, cut, token_rule}
use Rattle.wcheck.proofs.PlainSteps.{plain}

-- what follows from the rule, between the frames of a control whose operands are of the same function types
pub known_step : (s : Scope) (t : Token) (top : ControlFrame) (outer lent : List OuterFrame) (types after : List FuncType) (below under : List (Option ValType)) (a o : Operands) (is_open : Bool) (rule : OperandRule) → is_open ≡ true → types ≡ s.context.now.context.types → after ≡ types → under ≡ below → lent ≡ outer → Some (rule_of s.context.now.context.types rule) ≡ token_rule (context_at s top lent) t → apply (rule_of types rule) a ≡ Some o → step (scope_context s) t (cond is_open (frame_of types top a ∷ cut types (reverse outer) below) []) ≡ Some (cond is_open (frame_of after top o ∷ cut after (reverse outer) under) [])
known_step s t top outer lent types after below under a o is_open rule e1 e2 e3 e4 e5 e6 e7 =
    let ruled : apply (rule_of s.context.now.context.types rule) a ≡ Some o = ap (λ z. apply (rule_of z rule) a) (sym e2) ∙ e7 in
    rw (e1, e4, e3, e2) (plain s t top outer below a o (rule_of s.context.now.context.types rule) true (e6 ∙ ap (λ l. token_rule (context_at s top l) t) e5) ruled)
