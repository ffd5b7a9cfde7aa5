use Rattle.std.proofs.Common.{◌∙◌, [], map, sym, arith}
use Rattle.wcheck.specs.LocalRuns.{run_of}
use Rattle.wcheck.proofs.FirstLocals.{so_far_first, next_declared}
use Rattle.wcheck.proofs.locals.write_declared.Goals as goal

pub returns-then-count-length : goal.returns-then-count-length
returns-then-count-length c =
    so_far_first _ [] (map run_of c.args.runs.now) c.loop-ended.ended-index c.loop-ended.invariant.0

pub returns-in_err-resize : goal.returns-in_err-resize
returns-in_err-resize c =
    so_far_first _ [] (map run_of c.args.runs.now) c.loop-ended.ended-index (c.in_err-resize.ensures.items ∙ c.loop-ended.invariant.0)

pub loop-ended-preserved : goal.loop-ended-preserved
loop-ended-preserved c =
    next_declared _ c.loop-ended.written.items c.args.runs.now c.loop-ended.ended-index 100000 c.len-length.result _ _ c.loop-ended.invariant.0 c.loop-ended.invariant.1 c.loop-ended-test.true (omega arith) (sym c.len-length.ensures) (search) c.in_ok-resize.ensures.items
