use Rattle.std.proofs.Common.{◌≡◌, None, Some, List, refl, sym, ap, ◌∙◌}
use Rattle.std.specs.Prelude.{slice_get, option_map}
use Rattle.std.proofs.lemmas.Option.{slice_get_past, slice_get_read}
use Rattle.checked_body.specs.declared.frame_layout.FrameLayout.{FrameLayout}
use Rattle.wsyntax.specs.Modules.{module_shape}
use Rattle.accepted_module.proofs.FrameLayouts.{declared_at}
use Rattle.accepted_module.proofs.accepted.Accepted.declared_locals.Goals as goal

pub returns-in_err-shape : goal.returns-in_err-shape
returns-in_err-shape c =
    let a = c.args.self.now in
    let none : slice_get c.deref.result.now c.in_ok-body_index.field-0 ≡ None = slice_get_past _ _ c.in_err-shape.ensures.lookup.3 in
    let there = declared_at (module_shape a.«module») a.context a.type_ids.items a.bodies.items a.context.imported c.args.func c.in_ok-body_index.field-0 a.judged (sym c.in_ok-body_index.ensures) in
    c.from_residual-in_err-shape.ensures
    ∙ sym (there ∙ ap (λ (ss : List FrameLayout). option_map (λ s. s.declared) (slice_get ss c.in_ok-body_index.field-0)) (sym a.shaped ∙ sym c.deref.ensures.value) ∙ ap (option_map (λ (s : FrameLayout). s.declared)) none)

pub returns : goal.returns
returns c =
    let a = c.args.self.now in
    let some : slice_get c.deref.result.now c.in_ok-body_index.field-0 ≡ Some c.in_ok-shape.shape.now = slice_get_read c.deref.result.now _ _ _ refl c.in_ok-shape.ensures.lookup.3.0 c.in_ok-shape.ensures.lookup.1 in
    let there = declared_at (module_shape a.«module») a.context a.type_ids.items a.bodies.items a.context.imported c.args.func c.in_ok-body_index.field-0 a.judged (sym c.in_ok-body_index.ensures) in
    sym (there ∙ ap (λ (ss : List FrameLayout). option_map (λ s. s.declared) (slice_get ss c.in_ok-body_index.field-0)) (sym a.shaped ∙ sym c.deref.ensures.value) ∙ ap (option_map (λ (s : FrameLayout). s.declared)) some)
