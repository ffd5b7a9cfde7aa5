-- The labels in the innermost frame.
use Rattle.std.proofs.Common.{◌≡◌, ℕ, Bool, true, false, List, [], ◌∷◌, reverse, cond, slice_get, Option, Some, None, refl, sym, ap, ◌∙◌}
use Rattle.wsyntax.specs.declared.ValType.{ValType}
use Rattle.wsyntax.specs.Types.{FuncType}
use Rattle.wsyntax.specs.Instructions.{Token}
use Rattle.wsyntax.specs.Validation.Context.{Context}
use Rattle.wsyntax.specs.Validation.Algorithm.{Operands, Rule, context_in}
use Rattle.wcheck.specs.declared.frames.ControlFrame.{ControlFrame}
use Rattle.wcheck.specs.declared.frames.OuterFrame.{OuterFrame}
use Rattle.wcheck.specs.declared.control.Control.{Control}
use Rattle.wcheck.specs.declared.scope.Scope.{Scope}
use Rattle.wcheck.specs.Views.{scope_context, context_at, label_of, labels_in, frame_of, cut, token_rule}
use Rattle.wcheck.specs.Frames.{inner_of, frames_of}
use Rattle.wcheck.specs.Inspected.{labels_of}
use Rattle.wcheck.proofs.ReversedLists.{labels_outside}

pub labels_inside : (types : List FuncType) (top : ControlFrame) (outer : List OuterFrame) (below : List (Option ValType)) (a : Operands) → labels_of (frame_of types top a ∷ cut types (reverse outer) below) ≡ labels_in types top outer
labels_inside types top outer below a = ap (λ ls. label_of types top ∷ ls) (labels_outside types outer below)

-- the context under these labels
with_labels : Scope → List (List ValType) → Context
with_labels s ls = record (scope_context s) { labels = ls }

-- the frames, where the body has not ended
frames_open : (x : Control) → x.is_open ≡ true → frames_of x ≡ inner_of x
frames_open x e = ap (λ b. cond b (inner_of x) []) e

open_of : (x : Control) → (frames_of x ≡ [] → ⊥) → x.is_open ≡ true
open_of x h = go x.is_open h
  where
    go : (v : Bool) → (cond v (inner_of x) [] ≡ [] → ⊥) → v ≡ true
    go true k = refl
    go false k = absurd (k refl)

labels_open : (x : Control) (types : List FuncType) → x.is_open ≡ true → x.operands.types ≡ types → labels_of (frames_of x) ≡ labels_in types x.top x.outer.items
labels_open x types o e =
    ap labels_of (frames_open x o)
    ∙ labels_inside x.operands.types x.top x.outer.items x.operands.below x.operands.above
    ∙ ap (λ ts. labels_in ts x.top x.outer.items) e

pub label_at_most : (x : Control) (types : List FuncType) (l : ℕ) → x.is_open ≡ true → x.operands.types ≡ types → slice_get (labels_in types x.top x.outer.items) l ≡ None → None ≡ slice_get (labels_of (frames_of x)) l
label_at_most x types l o e h = sym (ap (λ ls. slice_get ls l) (labels_open x types o e) ∙ h)

pub label_there : (x : Control) (types : List FuncType) (l : ℕ) (r ts : List ValType) → x.is_open ≡ true → x.operands.types ≡ types → slice_get (labels_in types x.top x.outer.items) l ≡ Some (reverse r) → ts ≡ r → Some (reverse ts) ≡ slice_get (labels_of (frames_of x)) l
label_there x types l r ts o e h k = sym (ap (λ ls. slice_get ls l) (labels_open x types o e) ∙ h ∙ ap (λ z. Some (reverse z)) (sym k))

pub rule_at : (s : Scope) (x : Control) (t : Token) (r : Option Rule) → (frames_of x ≡ [] → ⊥) → x.operands.types ≡ s.context.now.context.types → r ≡ token_rule (context_at s x.top x.outer.items) t → r ≡ token_rule (context_in (scope_context s) (frames_of x)) t
unfolding with_labels
rule_at s x t r o e h =
    h ∙ ap (λ ls. token_rule (with_labels s ls) t) (sym (labels_open x s.context.now.context.types (open_of x o) e))
