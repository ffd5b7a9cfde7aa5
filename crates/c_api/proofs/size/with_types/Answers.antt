use Rattle.std.proofs.Common.{arith, sym}
use Rattle.wsyntax.specs.FuncTypes.{func_type_of}
use Rattle.c_api.specs.Sizes.{type_bytes}
use Rattle.c_api.proofs.Sums.{sum_next}
use Rattle.c_api.proofs.size.with_types.Goals as goal

pub loop-index-preserved : goal.loop-index-preserved
loop-index-preserved c =
    let next = sum_next type_bytes c.args.types.now c.loop-index.index (func_type_of c.in-Some.of_type) (sym c.in-Some.ensures.found) in
    record { whole = omega (arith, next); fits = omega arith }
