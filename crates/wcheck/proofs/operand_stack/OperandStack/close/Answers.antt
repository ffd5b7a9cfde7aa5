use Rattle.std.proofs.Common.{◌≡◌, map, ap, ◌∙◌, arith, []}
use Rattle.std.proofs.Math.ListN.{drop_of_length-le}
use Rattle.wcontext.specs.Lists.{prefix_of}
use Rattle.wcheck.specs.Runs.{types_in}
use Rattle.wcheck.proofs.FrameOperands.{base_size, closed}
use Rattle.wcheck.proofs.operand_stack.OperandStack.close.Goals as goal

pub returns-clause-above : goal.returns-clause-above
returns-clause-above c =
    let low = base_size (types_in c.truncate.inside.entries.items (map (prefix_of c.truncate.inside.context.now.context.types) c.truncate.inside.runs.items)) c.truncate.inside.context.now.context.types c.truncate.inside.base c.truncate.inside.unreachable c.args.self.now c.truncate.view_is c.truncate.invariant.1 in
    let gone : c.truncate-2.new.self.above.known ≡ [] = ap (λ o. o.known) c.truncate-2.ensures.above ∙ drop_of_length-le c.args.self.now.above.known (omega (arith, low)) in
    ap (λ z. record { known = z; is_dead = c.args.unreachable }) (closed (types_in c.self.inside.entries.items (map (prefix_of c.self.inside.context.now.context.types) c.self.inside.runs.items)) c.self.inside.context.now.context.types c.self.inside.base c.self.inside.unreachable c.truncate-2.new.self c.self.view_is c.self.invariant.1 c.args.self.now.below c.truncate-2.ensures.below gone c.min-self-inside.result c.args.base c.min-self-inside.ensures)
