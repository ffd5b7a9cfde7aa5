use Rattle.std.proofs.Common.{◌+◌, ◌-◌, ◌/◌, length, le_refl, arith}
use Rattle.wcheck.proofs.EndedRuns.{looks_first, looks_past, found_at, none_at, at_low, ends_past, before_end, middle_up, middle_down}
use Rattle.wcheck.proofs.locals.declared_local.Goals as goal

pub loop-low-init : goal.loop-low-init
loop-low-init c =
    (omega arith, le_refl _, looks_first c.args.x c.args.runs.now, λ r e. before_end c.args.runs.now r c.args.x e)

pub loop-low-preserved-then-runs-middle : goal.loop-low-preserved-then-runs-middle
loop-low-preserved-then-runs-middle c =
    let m = middle_up c.loop-low.low c.loop-low.high (length c.args.runs.now) c.loop-low-test.true c.loop-low.invariant.1 in
    (m.0, c.loop-low.invariant.1, looks_past c.args.x (c.loop-low.low + (c.loop-low.high - c.loop-low.low) / 2) c.args.runs.now _ c.requires.ends m.1 c.if-runs-middle.true, c.loop-low.invariant.3)

pub loop-low-preserved : goal.loop-low-preserved
loop-low-preserved c =
    let m = middle_down c.loop-low.low c.loop-low.high (length c.args.runs.now) c.loop-low-test.true c.loop-low.invariant.1 in
    (m.0, m.1, c.loop-low.invariant.2, λ r e. ends_past c.args.runs.now (c.loop-low.low + (c.loop-low.high - c.loop-low.low) / 2) c.args.x _ r c.if-runs-middle.false e)

pub returns-then-low-runs : goal.returns-then-low-runs
returns-then-low-runs c =
    let i = c.loop-low.invariant in
    found_at c.args.x c.loop-low.low c.args.runs.now _ c.requires.ends c.requires.small i.2 c.if-low-runs.true (at_low c.args.x c.loop-low.low c.loop-low.high c.args.runs.now _ i.0 c.loop-low-test.false c.if-low-runs.true i.3)

pub returns-else-low-runs : goal.returns-else-low-runs
returns-else-low-runs c =
    none_at c.args.x c.loop-low.low c.args.runs.now c.requires.ends c.requires.small c.loop-low.invariant.2 c.if-low-runs.false
