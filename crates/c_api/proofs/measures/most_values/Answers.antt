use Rattle.std.proofs.Common.{arith, sym}
use Rattle.wsyntax.specs.FuncTypes.{func_type_of}
use Rattle.c_api.specs.Measures.{type_values}
use Rattle.c_api.proofs.Sums.{most_next}
use Rattle.c_api.proofs.measures.most_values.Goals as goal

pub loop-index-preserved : goal.loop-index-preserved
loop-index-preserved c =
    let next = most_next type_values c.args.types.now c.loop-index.index (func_type_of c.in-Some.of_type) (sym c.in-Some.ensures.found) in
    omega (arith, next)
