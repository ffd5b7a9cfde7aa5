use Rattle.std.proofs.Common.{arith, ap, sym, ◌∙◌, filter_map}
use Rattle.wsyntax.specs.Modules.{import_shape, global_shape}
use Rattle.wsyntax.specs.Validation.ModuleContext.{imported_global}
use Rattle.wcontext.proofs.Shapes.{filter_map-map, map-map-take, joined}
use Rattle.wcontext.proofs.spaces.Spaces.globals.Goals as goal

pub returns : goal.returns
returns c =
    joined
    c.loop-global.invariant
    (c.in_ok-globals.ensures ∙ ap (filter_map (λ i. imported_global i.kind)) c.deref.ensures.value)
    (sym (filter_map-map (λ i. imported_global i.kind) import_shape c.args.module.now.imports.items))
    (map-map-take (λ g. g.global_type) global_shape c.loop-global.global-index c.args.module.now.globals.items (omega arith))
