use Rattle.std.proofs.Common.{◌↔◌, IsTrue, subst, ◌∙◌}
use Rattle.wsyntax.specs.Modules.{ModuleShape, module_shape, global_shape, initial_tokens}
use Rattle.wsyntax.specs.declared.module.Global.{Global}
use Rattle.wsyntax.specs.Validation.ModuleContext.{imported_globals}
use Rattle.wsyntax.specs.Validation.Rules.{ConstantOf}
use Rattle.wcontext.proofs.Counted.{imported_is}
use Rattle.wcontext.proofs.Firsts.{each_shape, first_here, item_got, right_here}
use Rattle.wcontext.proofs.rules.first_inconstant_global.Goals as goal

pub returns-then-not-is_constant : goal.returns-then-not-is_constant
returns-then-not-is_constant c =
    let m : ModuleShape = module_shape c.args.module.now in
    let got = item_got c.deref-global-items.result.now c.loop-position.position c.global-item.result c.global-item.is c.loop-position-test.true in
    let test = subst (λ gs. IsTrue c.is_constant.result ↔ ConstantOf gs c.global-item.result.global_type.val_type (initial_tokens c.global-item.result.init)) (c.constant_globals-imported.ensures ∙ imported_is c.requires) c.is_constant.ensures in
    first_here global_shape (λ g. ConstantOf (imported_globals m) g.global_type.val_type g.init) c.deref-global-items.result.now _ c.loop-position.position c.global-item.result _ c.deref-global-items.ensures.value got test c.if-not-is_constant.true c.loop-position.invariant

pub loop-position-preserved : goal.loop-position-preserved
loop-position-preserved c =
    let m : ModuleShape = module_shape c.args.module.now in
    let got = item_got c.deref-global-items.result.now c.loop-position.position c.global-item.result c.global-item.is c.loop-position-test.true in
    let test = subst (λ gs. IsTrue c.is_constant.result ↔ ConstantOf gs c.global-item.result.global_type.val_type (initial_tokens c.global-item.result.init)) (c.constant_globals-imported.ensures ∙ imported_is c.requires) c.is_constant.ensures in
    right_here (λ (g : Global). ConstantOf (imported_globals m) g.global_type.val_type (initial_tokens g.init)) c.deref-global-items.result.now _ c.loop-position.position c.global-item.result _ c.deref-global-items.ensures.value got test c.if-not-is_constant.false c.loop-position.invariant

pub returns : goal.returns
returns c =
    let m : ModuleShape = module_shape c.args.module.now in
    each_shape global_shape (λ g. ConstantOf (imported_globals m) g.global_type.val_type g.init) c.deref-global-items.result.now _ c.loop-position.position c.deref-global-items.ensures.value c.loop-position-test.false c.loop-position.invariant
