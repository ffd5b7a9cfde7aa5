use Rattle.std.proofs.Common.{arith}
use Rattle.wcheck.proofs.FrameOperands.{all_taken}
use Rattle.wcheck.proofs.operand_stack.OperandStack.pop_all_known.Goals as goal

pub returns-clause-taken : goal.returns-clause-taken
returns-clause-taken c = λ _.
    let last = c.ends_in_singles.ensures c.if-not-ends_in_singles.false in
    all_taken c.args.self.now last.0 c.args.ts.now _ c.truncate.new.self.above last.1 (omega (arith, c.if-height-base.false, c.height-height.ensures, c.base.ensures)) (omega (arith, c.if-height-base.false, c.height-height.ensures, c.base.ensures)) c.truncate.ensures.above
