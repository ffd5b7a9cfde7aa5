use Rattle.std.proofs.Common.{rules, sym, arith}
use Rattle.std.specs.Prelude.{FitsSigned, pos, ◌<ℤ◌}
use Rattle.std.specs.Int.{w64}
use Rattle.std.proofs.lemmas.Int.{to_z-of_z, ints}
use Rattle.wdecode.proofs.BlockTypes.{index_small}
use Rattle.wdecode.proofs.types.type_index_at.Goals as goal

pub overflow_cast-result : goal.overflow_cast-result
overflow_cast-result c =
    let fits : FitsSigned w64 c.in-Some.index = search rules in
    let small : c.in-Some.index <ℤ pos 4294967296 = index_small c.args.bytes.now c.in-Some.rest.now c.in-Some.index (sym c.in-Some.ensures) in
    let is = to_z-of_z w64 c.in-Some.index fits in
    grind (arith, ints, is, small)
