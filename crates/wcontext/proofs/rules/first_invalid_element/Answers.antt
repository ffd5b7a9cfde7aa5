use Rattle.std.proofs.Common.{◌≤◌, length, refl, sym, arith}
use Rattle.wsyntax.specs.Elements.{element_of}
use Rattle.wsyntax.specs.Modules.{ModuleShape, module_shape, element_shape}
use Rattle.wsyntax.specs.Validation.Rules.{ElementValid}
use Rattle.wcontext.proofs.Counted.{element_tested}
use Rattle.wcontext.proofs.Firsts.{each_shape, first_here, right_here}
use Rattle.wcontext.proofs.rules.first_invalid_element.Goals as goal

pub returns-then-not-takes_element : goal.returns-then-not-takes_element
returns-then-not-takes_element c =
    let m : ModuleShape = module_shape c.args.module.now in
    let test = element_tested c.requires (element_shape (element_of c.in-Some.segment)) _ c.takes_element.ensures in
    first_here element_shape (ElementValid m) c.args.module.now.elements _ c.loop-position.position (element_of c.in-Some.segment) _ refl (sym c.in-Some.ensures) test c.if-not-takes_element.true c.loop-position.invariant

pub loop-position-preserved : goal.loop-position-preserved
loop-position-preserved c =
    let m : ModuleShape = module_shape c.args.module.now in
    let test = element_tested c.requires (element_shape (element_of c.in-Some.segment)) _ c.takes_element.ensures in
    right_here (λ e. ElementValid m (element_shape e)) c.args.module.now.elements _ c.loop-position.position (element_of c.in-Some.segment) _ refl (sym c.in-Some.ensures) test c.if-not-takes_element.false c.loop-position.invariant

pub returns : goal.returns
returns c =
    let m : ModuleShape = module_shape c.args.module.now in
    let end : length c.args.module.now.elements ≤ c.loop-position.position = omega (arith, c.len-position-end.ensures, c.loop-position-test.false) in
    each_shape element_shape (ElementValid m) c.args.module.now.elements _ c.loop-position.position refl end c.loop-position.invariant
