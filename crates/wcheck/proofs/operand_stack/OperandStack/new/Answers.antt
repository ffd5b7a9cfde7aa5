use Rattle.std.proofs.Common.{map, arith}
use Rattle.wcontext.specs.Lists.{prefix_of}
use Rattle.wcheck.proofs.FrameOperands.{empty_stack, empty_counted}
use Rattle.wcheck.proofs.operand_stack.OperandStack.new.Goals as goal

pub invariant_of-result : goal.invariant_of-result
invariant_of-result c =
    (empty_counted c.new.result.items (map (prefix_of c.args.context.now.context.types) c.new-2.result.items) c.new.ensures.items, omega arith)

pub returns : goal.returns
returns c =
    empty_stack c.new.result.items (map (prefix_of c.args.context.now.context.types) c.new-2.result.items) c.args.context.now.context.types c.new.ensures.items
