use Rattle.std.proofs.Common.{sym}
use Rattle.wsyntax.specs.FuncTypes.{func_type_of}
use Rattle.wsyntax.specs.Execution.Start.{type_has_floats}
use Rattle.accepted_module.proofs.Mentions.{none_more, one_found}
use Rattle.accepted_module.proofs.floats.types_have_floats.Goals as goal

pub returns-then-type_has_floats : goal.returns-then-type_has_floats
returns-then-type_has_floats c = sym (one_found type_has_floats c.args.types.now c.loop-index.index (func_type_of c.in-Some.of_type) (sym c.in-Some.ensures.found) (sym c.if-type_has_floats.ensures))

pub loop-index-preserved : goal.loop-index-preserved
loop-index-preserved c = none_more type_has_floats c.args.types.now c.loop-index.index (func_type_of c.in-Some.of_type) (sym c.in-Some.ensures.found) c.loop-index.invariant (sym c.if-type_has_floats.ensures)
