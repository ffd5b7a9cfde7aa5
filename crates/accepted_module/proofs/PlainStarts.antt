-- The start function of a module that was judged.
use Rattle.std.proofs.Common.{◌≡◌, ℕ, List, Option, Some, None, refl}
use Rattle.std.specs.Prelude.{IfSome, slice_get}
use Rattle.std.proofs.Math.Logic.{∥∥₁_elim}
use Rattle.std.proofs.Props.{props}
use Rattle.wsyntax.specs.Modules.{ModuleShape}
use Rattle.wsyntax.specs.Validation.ModuleContext.{IndexedContext, module_context, empty_type}
use Rattle.soundness.specs.Instances.{StartIsPlain}
use Rattle.checked_body.specs.declared.body.CheckedBody.{CheckedBody}
use Rattle.accepted_module.specs.Judgement.{IsJudged}

plain_if : (m : ModuleShape) (x : IndexedContext) (all : List CheckedBody) → ∥ IsJudged m x all ∥₁ → StartIsPlain → (start : Option ℕ) → m.start ≡ start
    → IfSome start (λ f. slice_get (module_context m).functions f ≡ Some empty_type)
plain_if m x all judged plain None e = tt
plain_if m x all judged plain (Some f) e = ∥∥₁_elim judged (hlevel props) (λ j. plain.typed m f j.rules e)

pub starts_plainly : (m : ModuleShape) (x : IndexedContext) (all : List CheckedBody) → ∥ IsJudged m x all ∥₁ → StartIsPlain → IfSome m.start (λ f. slice_get (module_context m).functions f ≡ Some empty_type)
starts_plainly m x all judged plain = plain_if m x all judged plain m.start refl
