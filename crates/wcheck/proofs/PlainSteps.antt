-- A step of an instruction without a body.
use Rattle.std.proofs.Common.{◌≡◌, Bool, true, false, List, ◌∷◌, reverse, Option, Some, None, refl, sym, ap, ◌∙◌}
use Rattle.wsyntax.specs.declared.ValType.{ValType}
use Rattle.wsyntax.specs.Instructions.{Op, Token, Do, OpenBlock, OpenLoop, OpenIf, Else, End}
use Rattle.wsyntax.specs.Validation.Context.{Context}
use Rattle.wsyntax.specs.Validation.Algorithm.{on, when, Rule, rule, Operands, apply, Frame, context_in, step}
use Rattle.wcheck.specs.declared.frames.ControlFrame.{ControlFrame}
use Rattle.wcheck.specs.declared.frames.OuterFrame.{OuterFrame}
use Rattle.wcheck.specs.declared.scope.Scope.{Scope}
use Rattle.wcheck.specs.Views.{scope_context, context_at, label_of, frame_of, cut, token_rule}
use Rattle.wcheck.proofs.ReversedLists.{labels_outside}

-- the context under these labels
with_labels : Scope → ControlFrame → List (List ValType) → Context
with_labels s top ls = record (scope_context s) { labels = label_of s.context.now.context.types top ∷ ls }

-- the step of a token that has a rule
step_rule : (C : Context) (t : Token) (f : Frame) (fs : List Frame) (r : Rule) → Some r ≡ token_rule (context_in C (f ∷ fs)) t → step C t (f ∷ fs) ≡ on (apply r f.operands) (λ o. Some (record f { operands = o } ∷ fs))
step_rule C (Do i) f fs r e = ap (λ x. on x (λ q. on (apply q f.operands) (λ o. Some (record f { operands = o } ∷ fs)))) (sym e)
step_rule C (OpenBlock t) f fs r e = absurd cc
step_rule C (OpenLoop t) f fs r e = absurd cc
step_rule C (OpenIf t) f fs r e = absurd cc
step_rule C Else f fs r e = absurd cc
step_rule C End f fs r e = absurd cc

-- what follows from the rule, in the code's terms
pub plain : (s : Scope) (t : Token) (top : ControlFrame) (outer : List OuterFrame) (below : List (Option ValType)) (a o : Operands) (r : Rule) (goes : Bool) → Some r ≡ token_rule (context_at s top outer) t → apply r a ≡ when goes (Some o) → step (scope_context s) t (frame_of s.context.now.context.types top a ∷ cut s.context.now.context.types (reverse outer) below) ≡ when goes (Some (frame_of s.context.now.context.types top o ∷ cut s.context.now.context.types (reverse outer) below))
unfolding with_labels
plain s t top outer below a o r goes e h =
    let seen_rule : Some r ≡ token_rule (context_in (scope_context s) (frame_of s.context.now.context.types top a ∷ cut s.context.now.context.types (reverse outer) below)) t = e ∙ ap (λ ls. token_rule (with_labels s top ls) t) (sym (labels_outside s.context.now.context.types outer below)) in
    step_rule (scope_context s) t (frame_of s.context.now.context.types top a) (cut s.context.now.context.types (reverse outer) below) r seen_rule
    ∙ ap (λ x. on x (λ u. Some (frame_of s.context.now.context.types top u ∷ cut s.context.now.context.types (reverse outer) below))) h
    ∙ then_some goes o
  where
    then_some : (v : Bool) (u : Operands) → on (when v (Some u)) (λ w. Some (frame_of s.context.now.context.types top w ∷ cut s.context.now.context.types (reverse outer) below)) ≡ when v (Some (frame_of s.context.now.context.types top u ∷ cut s.context.now.context.types (reverse outer) below))
    then_some true u = refl
    then_some false u = refl

-- an instruction that has no rule
pub unruled : (s : Scope) (t : Token) (i : Op) (top : ControlFrame) (outer : List OuterFrame) (below : List (Option ValType)) (a : Operands) → t ≡ Do i → None ≡ token_rule (context_at s top outer) t → step (scope_context s) t (frame_of s.context.now.context.types top a ∷ cut s.context.now.context.types (reverse outer) below) ≡ None
unfolding with_labels
unruled s t i top outer below a q e =
    let none : None ≡ rule (context_in (scope_context s) (frame_of s.context.now.context.types top a ∷ cut s.context.now.context.types (reverse outer) below)) i = e ∙ ap (token_rule (context_at s top outer)) q ∙ ap (λ ls. token_rule (with_labels s top ls) (Do i)) (sym (labels_outside s.context.now.context.types outer below)) in
    ap (λ z. step (scope_context s) z (frame_of s.context.now.context.types top a ∷ cut s.context.now.context.types (reverse outer) below)) q
    ∙ ap (λ x. on x (λ r. on (apply r a) (λ o. Some (frame_of s.context.now.context.types top o ∷ cut s.context.now.context.types (reverse outer) below)))) (sym none)
