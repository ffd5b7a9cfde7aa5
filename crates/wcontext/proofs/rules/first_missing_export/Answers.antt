use Rattle.std.proofs.Common.{◌<◌, [], slice_index_or}
use Rattle.std.proofs.lemmas.Option.{slice_get-get_or}
use Rattle.wsyntax.specs.Modules.{ModuleShape, module_shape, export_shape}
use Rattle.wsyntax.specs.Validation.Rules.{count_of}
use Rattle.wsyntax.specs.declared.module.Export.{Export}
use Rattle.wsyntax.specs.declared.module.ExportKind.TheVariants.{Function}
use Rattle.wcontext.proofs.Counted.{export_tested}
use Rattle.wcontext.proofs.Firsts.{each_shape, first_here, right_here}
use Rattle.wcontext.proofs.rules.first_missing_export.Goals as goal

-- what a list has after its end
abbrev after : Export
after = record { name = record { ref_ptr = (0, 0); now = [] }; kind = Function; index = 0 }

pub returns-then-not-has_exported : goal.returns-then-not-has_exported
returns-then-not-has_exported c =
    let m : ModuleShape = module_shape c.args.module.now in
    let item : Export = slice_index_or c.deref-export-items.result.now c.loop-position.position after in
    let got = slice_get-get_or c.deref-export-items.result.now c.loop-position.position after c.loop-position-test.true in
    let test = export_tested c.requires (export_shape item) _ c.has_exported.ensures in
    first_here export_shape (λ e. e.index < count_of m e.kind) c.deref-export-items.result.now _ c.loop-position.position item _ c.deref-export-items.ensures.value got test c.if-not-has_exported.true c.loop-position.invariant

pub loop-position-preserved : goal.loop-position-preserved
loop-position-preserved c =
    let m : ModuleShape = module_shape c.args.module.now in
    let item : Export = slice_index_or c.deref-export-items.result.now c.loop-position.position after in
    let got = slice_get-get_or c.deref-export-items.result.now c.loop-position.position after c.loop-position-test.true in
    let test = export_tested c.requires (export_shape item) _ c.has_exported.ensures in
    right_here (λ (e : Export). e.index < count_of m e.kind) c.deref-export-items.result.now _ c.loop-position.position item _ c.deref-export-items.ensures.value got test c.if-not-has_exported.false c.loop-position.invariant

pub returns : goal.returns
returns c =
    let m : ModuleShape = module_shape c.args.module.now in
    each_shape export_shape (λ e. e.index < count_of m e.kind) c.deref-export-items.result.now _ c.loop-position.position c.deref-export-items.ensures.value c.loop-position-test.false c.loop-position.invariant
