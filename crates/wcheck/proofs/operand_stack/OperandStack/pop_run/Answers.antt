use Rattle.std.proofs.Common.{arith}
use Rattle.wcontext.specs.Lists.{prefix_of}
use Rattle.wcheck.proofs.FrameOperands.{types_taken}
use Rattle.wcheck.proofs.operand_stack.OperandStack.pop_run.Goals as goal

pub returns-clause-taken : goal.returns-clause-taken
returns-clause-taken c =
    types_taken c.args.self.now c.in_ok-count.ensures.last.0 (prefix_of c.args.self.now.types c.args.prefix) c.in_ok-count.count _ c.truncate.new.self.above c.in_ok-count.ensures.last.1 c.in_ok-count.ensures.count (omega (arith, c.if-height-base.false, c.height-height.ensures, c.base.ensures)) (omega (arith, c.if-height-base.false, c.height-height.ensures, c.base.ensures)) c.truncate.ensures.above
