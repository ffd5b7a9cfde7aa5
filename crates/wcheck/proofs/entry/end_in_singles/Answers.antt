use Rattle.std.proofs.Common.{◌-◌, length, arith}
use Rattle.wcheck.proofs.KnownOperands.{known_none, known_more, known_all}
use Rattle.wcheck.proofs.entry.end_in_singles.Goals as goal

pub loop-i-init : goal.loop-i-init
loop-i-init c runs = known_none c.args.entries.now runs c.args.ts.now (length c.args.entries.now - length c.args.ts.now)

pub loop-i-preserved : goal.loop-i-preserved
loop-i-preserved c runs =
    known_more c.args.entries.now runs c.args.ts.now (length c.args.entries.now - length c.args.ts.now) c.loop-i.i _ _ (omega arith) c.loop-i-test.true (c.is_known.ensures c.if-not-is_known.false) (c.loop-i.invariant runs)

pub returns : goal.returns
returns c _ runs = known_all c.args.entries.now runs c.args.ts.now c.loop-i.i c.if-entries-ts.false (omega arith) (c.loop-i.invariant runs)
