use Rattle.std.proofs.Common.{map, ap, ◌∙◌, [], arith, false}
use Rattle.wcontext.specs.Lists.{prefix_of}
use Rattle.wcheck.proofs.FrameOperands.{empty_stack, empty_counted}
use Rattle.wcheck.proofs.operand_stack.OperandStack.clear.Goals as goal

pub invariant_of-self : goal.invariant_of-self
invariant_of-self c =
    (empty_counted c.clear.new.self.items (map (prefix_of c.self.inside.context.now.context.types) c.clear-2.new.self.items) c.clear.ensures.items, omega arith)

pub returns : goal.returns
returns c =
    empty_stack c.clear.new.self.items (map (prefix_of c.self.inside.context.now.context.types) c.clear-2.new.self.items) c.self.inside.context.now.context.types c.clear.ensures.items ∙ ap (λ z. record { below = []; above = record { known = []; is_dead = false }; types = z.types }) c.self.view_is
