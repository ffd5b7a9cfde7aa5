use Rattle.std.proofs.Common.{◌≡◌, ◌<◌, List, ◌∷◌, [], ◌++◌, length, get_or, take, arith, ap, sym, ◌∙◌}
use Rattle.std.specs.Prelude.{slice_index, unwrap_or, Option}
use Rattle.wsyntax.specs.Types.{FuncType}
use Rattle.wsyntax.specs.FuncTypes.{func_type_of}
use Rattle.wsyntax.specs.Validation.ModuleContext.{type_at, empty_type}
use Rattle.checked_body.specs.declared.frame_layout.FrameLayout.{FrameLayout}
use Rattle.accepted_module.specs.FrameLayouts.{frame_layout, frame_layouts}
use Rattle.accepted_module.proofs.FrameLayouts.{shapes_more}
use Rattle.accepted_module.proofs.shapes.layouts_of_frames.Goals as goal

pub loop-position-preserved : goal.loop-position-preserved
loop-position-preserved c =
    let i = c.loop-position.position in
    let y = get_or c.args.functions.now i 0 in
    let types = c.args.types.now in
    let all = c.args.bodies.now in
    let before : i < length c.args.functions.now = omega arith in
    let there : i < length all = omega (arith, c.requires.paired) in
    let b = c.index-bodies-position.result in
    let of_type : func_type_of c.in-Some.of_type ≡ type_at types y = ap (λ (o : Option FuncType). unwrap_or o empty_type) c.in-Some.ensures.found in
    let one : c.frame_layout.result ≡ frame_layout (type_at types y) (slice_index c.args.type_ids.now y) b =
    c.frame_layout.ensures ∙ ap (λ (t : FuncType). frame_layout t (slice_index c.args.type_ids.now y) b) of_type in
    c.in_ok-push.ensures.items
    ∙ ap (λ (ss : List FrameLayout). ss ++ c.frame_layout.result ∷ []) c.loop-position.invariant
    ∙ ap (λ (s : FrameLayout). frame_layouts types c.args.type_ids.now (take i c.args.functions.now) all ++ s ∷ []) one
    ∙ sym (shapes_more types c.args.type_ids.now c.args.functions.now all i b before there (sym c.index-bodies-position.is))
