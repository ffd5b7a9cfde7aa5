use Rattle.std.proofs.Common.{map, refl, [], ◌∷◌}
use Rattle.wcontext.specs.Lists.{prefix_of}
use Rattle.wcheck.specs.Runs.{types_in}
use Rattle.wcheck.proofs.Pushed.{pushed, pushed_counted}
use Rattle.wcheck.proofs.FrameOperands.{more_below, more_above, more_enough}
use Rattle.wcheck.proofs.operand_stack.OperandStack.push.Goals as goal

pub invariant_of-self-2 : goal.invariant_of-self-2
invariant_of-self-2 c =
    (pushed_counted c.self.inside.entries.items c.push.new.self.items (map (prefix_of c.self.inside.context.now.context.types) c.self.inside.runs.items) c.packed.result c.self.inside.run_surplus c.in_ok-push.ensures.items c.packed.ensures.single c.self.invariant.0, more_enough (types_in c.self.inside.entries.items (map (prefix_of c.self.inside.context.now.context.types) c.self.inside.runs.items)) (types_in c.push.new.self.items (map (prefix_of c.self.inside.context.now.context.types) c.self.inside.runs.items)) c.self.inside.context.now.context.types c.self.inside.base c.self.inside.unreachable c.args.self.now c.self.view_is (c.args.x ∷ []) (pushed c.self.inside.entries.items c.push.new.self.items (map (prefix_of c.self.inside.context.now.context.types) c.self.inside.runs.items) (types_in c.self.inside.entries.items (map (prefix_of c.self.inside.context.now.context.types) c.self.inside.runs.items)) c.packed.result c.args.x c.in_ok-push.ensures.items refl c.packed.ensures.single c.packed.ensures.value) c.self.invariant.1)

pub returns-clause-above : goal.returns-clause-above
returns-clause-above c = more_above (types_in c.self.inside.entries.items (map (prefix_of c.self.inside.context.now.context.types) c.self.inside.runs.items)) (types_in c.push.new.self.items (map (prefix_of c.self.inside.context.now.context.types) c.self.inside.runs.items)) c.self.inside.context.now.context.types c.self.inside.base c.self.inside.unreachable c.args.self.now c.self.view_is (c.args.x ∷ []) (pushed c.self.inside.entries.items c.push.new.self.items (map (prefix_of c.self.inside.context.now.context.types) c.self.inside.runs.items) (types_in c.self.inside.entries.items (map (prefix_of c.self.inside.context.now.context.types) c.self.inside.runs.items)) c.packed.result c.args.x c.in_ok-push.ensures.items refl c.packed.ensures.single c.packed.ensures.value) c.self.invariant.1

pub returns-clause-below : goal.returns-clause-below
returns-clause-below c = more_below (types_in c.self.inside.entries.items (map (prefix_of c.self.inside.context.now.context.types) c.self.inside.runs.items)) (types_in c.push.new.self.items (map (prefix_of c.self.inside.context.now.context.types) c.self.inside.runs.items)) c.self.inside.context.now.context.types c.self.inside.base c.self.inside.unreachable c.args.self.now c.self.view_is (c.args.x ∷ []) (pushed c.self.inside.entries.items c.push.new.self.items (map (prefix_of c.self.inside.context.now.context.types) c.self.inside.runs.items) (types_in c.self.inside.entries.items (map (prefix_of c.self.inside.context.now.context.types) c.self.inside.runs.items)) c.packed.result c.args.x c.in_ok-push.ensures.items refl c.packed.ensures.single c.packed.ensures.value) c.self.invariant.1
