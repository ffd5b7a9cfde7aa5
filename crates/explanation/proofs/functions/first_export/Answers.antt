use Rattle.std.proofs.Common.{sym, ◌∙◌, inl, inr}
use Rattle.explanation.proofs.Exports.{first_here, first_later}
use Rattle.explanation.proofs.functions.first_export.Goals as goal
use Rattle.explanation.proofs.functions.first_export.Goals.{else-is_function-via-then-is_function+else-export-func, else-is_function-via-else-is_function}

pub returns-then-export-func : goal.returns-then-export-func
returns-then-export-func c =
    sym (c.loop-export.invariant ∙ first_here c.args.func c.args.exports.now c.loop-export.export-index _ c.loop-export-test.true (sym c.is_function.ensures ∙ c.if-is_function.true) c.if-export-func.true)

pub loop-export-preserved : goal.loop-export-preserved
loop-export-preserved c = elim c.else-is_function.branch [
  | else-is_function-via-then-is_function+else-export-func w ↦
      c.loop-export.invariant ∙ first_later c.args.func c.args.exports.now c.loop-export.export-index _ c.loop-export-test.true (inr w.if-export-func.false)
  | else-is_function-via-else-is_function w ↦
      c.loop-export.invariant ∙ first_later c.args.func c.args.exports.now c.loop-export.export-index _ c.loop-export-test.true (inl (sym c.is_function.ensures ∙ w.if-is_function.false))
]
