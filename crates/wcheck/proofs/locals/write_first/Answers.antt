use Rattle.std.proofs.Common.{arith, ap, sym, ◌∙◌, ◌++◌}
use Rattle.wcheck.proofs.FirstLocals.{some_first, so_far_first, full_first, next_new}
use Rattle.wcheck.proofs.locals.write_first.Goals as goal

pub returns-then-params-gt-EXPANDED : goal.returns-then-params-gt-EXPANDED
returns-then-params-gt-EXPANDED c =
    some_first _ _ _ 256 (c.in_ok-extend_from_slice.ensures.items ∙ ap (λ z. z ++ c.first_of.result.now) c.requires ∙ c.first_of.ensures)

pub returns-in_err-resize : goal.returns-in_err-resize
returns-in_err-resize c =
    so_far_first _ _ _ c.loop-run.run-index (c.in_err-resize.ensures.items ∙ c.loop-run.invariant.0)

pub returns-then-count-written : goal.returns-then-count-written
returns-then-count-written c =
    full_first _ c.loop-run.expanded.items _ c.args.runs.now c.loop-run.run-index 256 c.len-written.result _ _ c.loop-run.invariant.0 c.loop-run.invariant.1 c.loop-run-test.true (omega arith) (sym c.len-written.ensures) (search) c.in_ok-resize.ensures.items

pub returns-in_err-resize-2 : goal.returns-in_err-resize-2
returns-in_err-resize-2 c =
    so_far_first _ _ _ c.loop-run.run-index (c.in_err-resize-2.ensures.items ∙ c.loop-run.invariant.0)

pub loop-run-preserved : goal.loop-run-preserved
loop-run-preserved c =
    next_new _ c.loop-run.expanded.items _ c.args.runs.now c.loop-run.run-index 256 c.len-written.result _ _ c.loop-run.invariant.0 c.loop-run.invariant.1 c.loop-run-test.true (omega arith) (sym c.len-written.ensures) (search) c.in_ok-resize-2.ensures.items
