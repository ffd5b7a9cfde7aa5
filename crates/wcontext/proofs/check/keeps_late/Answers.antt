use Rattle.std.proofs.Common.{◌≡◌, ◌<◌, arith}
use Rattle.wsyntax.specs.Elements.{element_of}
use Rattle.wsyntax.specs.Modules.{module_shape, element_shape, export_shape}
use Rattle.wsyntax.specs.Validation.Rules.{ElementValid, count_of}
use Rattle.wsyntax.specs.declared.elements.Element.{Element}
use Rattle.wcontext.proofs.Firsts.{none_found}
use Rattle.wcontext.proofs.check.keeps_late.Goals as goal

pub returns-in-9 : goal.returns-in-9
returns-in-9 c = rw c.in-9.is (none_found export_shape (λ e. e.index < count_of (module_shape c.args.module.now) e.kind) _ c.first_missing_export.result _ c.is_none.ensures c.first_missing_export.ensures)

pub returns-in-10 : goal.returns-in-10
returns-in-10 c = rw c.in-10.is c.exports_distinct.ensures

pub returns-in_default : goal.returns-in_default
returns-in_default c =
    let last : c.args.rule ≡ 12 = omega arith in
    rw last (none_found (λ (e : Element). element_shape (element_of e)) (ElementValid (module_shape c.args.module.now)) _ c.first_invalid_element.result _ c.is_none-in_default.ensures c.first_invalid_element.ensures)
