use Rattle.std.proofs.Common.{arith, sym}
use Rattle.wsyntax.specs.Elements.{element_of}
use Rattle.c_api.specs.Sizes.{element_bytes}
use Rattle.c_api.proofs.Sums.{sum_next}
use Rattle.c_api.proofs.size.with_elements.Goals as goal

pub loop-position-preserved : goal.loop-position-preserved
loop-position-preserved c =
    let next = sum_next element_bytes c.args.elements.now c.loop-position.position (element_of c.in-Some.element) (sym c.in-Some.ensures) in
    record { whole = omega (arith, next); fits = omega arith }
