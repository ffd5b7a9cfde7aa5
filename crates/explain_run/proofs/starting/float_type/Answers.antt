use Rattle.std.proofs.Common.{sym, ◌∙◌, arith}
use Rattle.wsyntax.specs.FuncTypes.{func_type_of}
use Rattle.wsyntax.specs.Execution.Start.{type_has_floats}
use Rattle.explain_run.proofs.Positions.{no_position, position_from_front, position_here, position_later}
use Rattle.explain_run.proofs.starting.float_type.Goals as goal

pub returns-then-type_has_floats : goal.returns-then-type_has_floats
returns-then-type_has_floats c =
    sym (position_from_front type_has_floats c.args.types.now ∙ c.loop-index.invariant
    ∙ position_here type_has_floats c.args.types.now c.loop-index.index (func_type_of c.in-Some.of_type) (omega arith) (sym c.in-Some.ensures.found) (sym c.if-type_has_floats.ensures))

pub loop-index-preserved : goal.loop-index-preserved
loop-index-preserved c =
    c.loop-index.invariant
    ∙ position_later type_has_floats c.args.types.now c.loop-index.index (func_type_of c.in-Some.of_type) (omega arith) (sym c.in-Some.ensures.found) (sym c.if-type_has_floats.ensures)

pub returns : goal.returns
returns c = sym (position_from_front type_has_floats c.args.types.now ∙ c.loop-index.invariant ∙ no_position type_has_floats c.args.types.now c.loop-index.index (omega arith))
