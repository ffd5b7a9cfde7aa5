use Rattle.std.proofs.Common.{◌≤◌, map, ap, subst, refl, ◌∙◌}
use Rattle.std.specs.Prelude.{◌==◌}
use Rattle.wcontext.specs.Lists.{prefix_of}
use Rattle.wcheck.specs.Runs.{types_in}
use Rattle.wcheck.proofs.Singles.{counted_any, taken_singles, no_runs}
use Rattle.wcheck.proofs.FrameOperands.{base_size, cut_to, cut_below, cut_enough}
use Rattle.wcheck.proofs.operand_stack.OperandStack.truncate.Goals as goal

pub invariant_of-self : goal.invariant_of-self
invariant_of-self c =
    (counted_any c.self.inside.entries.items c.truncate.new.self.items (map (prefix_of c.self.inside.context.now.context.types) c.self.inside.runs.items) c.self.inside.run_surplus (no_runs c.self.inside.context.now.context.types c.self.inside.runs.items c.is_empty.result (c.is_empty.ensures ∙ ap (λ n. n == 0) c.self.inside.runs.ok.0) c.if-is_empty.true) c.self.invariant.0, cut_enough (types_in c.self.inside.entries.items (map (prefix_of c.self.inside.context.now.context.types) c.self.inside.runs.items)) _ c.self.inside.context.now.context.types c.self.inside.base c.self.inside.unreachable c.args.self.now c.self.view_is c.args.height (taken_singles c.self.inside.entries.items c.truncate.new.self.items (map (prefix_of c.self.inside.context.now.context.types) c.self.inside.runs.items) (types_in c.self.inside.entries.items (map (prefix_of c.self.inside.context.now.context.types) c.self.inside.runs.items)) c.args.height (no_runs c.self.inside.context.now.context.types c.self.inside.runs.items c.is_empty.result (c.is_empty.ensures ∙ ap (λ n. n == 0) c.self.inside.runs.ok.0) c.if-is_empty.true) refl c.truncate.ensures.items) (subst (λ n. n ≤ c.args.height) (base_size (types_in c.self.inside.entries.items (map (prefix_of c.self.inside.context.now.context.types) c.self.inside.runs.items)) c.self.inside.context.now.context.types c.self.inside.base c.self.inside.unreachable c.args.self.now c.self.view_is c.self.invariant.1) c.requires) c.self.invariant.1)

pub returns-then-is_empty-clause-above : goal.returns-then-is_empty-clause-above
returns-then-is_empty-clause-above c = cut_to (types_in c.self.inside.entries.items (map (prefix_of c.self.inside.context.now.context.types) c.self.inside.runs.items)) _ c.self.inside.context.now.context.types c.self.inside.base c.self.inside.unreachable c.args.self.now c.self.view_is c.args.height (taken_singles c.self.inside.entries.items c.truncate.new.self.items (map (prefix_of c.self.inside.context.now.context.types) c.self.inside.runs.items) (types_in c.self.inside.entries.items (map (prefix_of c.self.inside.context.now.context.types) c.self.inside.runs.items)) c.args.height (no_runs c.self.inside.context.now.context.types c.self.inside.runs.items c.is_empty.result (c.is_empty.ensures ∙ ap (λ n. n == 0) c.self.inside.runs.ok.0) c.if-is_empty.true) refl c.truncate.ensures.items) (subst (λ n. n ≤ c.args.height) (base_size (types_in c.self.inside.entries.items (map (prefix_of c.self.inside.context.now.context.types) c.self.inside.runs.items)) c.self.inside.context.now.context.types c.self.inside.base c.self.inside.unreachable c.args.self.now c.self.view_is c.self.invariant.1) c.requires) c.self.invariant.1

pub returns-then-is_empty-clause-below : goal.returns-then-is_empty-clause-below
returns-then-is_empty-clause-below c = cut_below (types_in c.self.inside.entries.items (map (prefix_of c.self.inside.context.now.context.types) c.self.inside.runs.items)) _ c.self.inside.context.now.context.types c.self.inside.base c.self.inside.unreachable c.args.self.now c.self.view_is c.args.height (taken_singles c.self.inside.entries.items c.truncate.new.self.items (map (prefix_of c.self.inside.context.now.context.types) c.self.inside.runs.items) (types_in c.self.inside.entries.items (map (prefix_of c.self.inside.context.now.context.types) c.self.inside.runs.items)) c.args.height (no_runs c.self.inside.context.now.context.types c.self.inside.runs.items c.is_empty.result (c.is_empty.ensures ∙ ap (λ n. n == 0) c.self.inside.runs.ok.0) c.if-is_empty.true) refl c.truncate.ensures.items) (subst (λ n. n ≤ c.args.height) (base_size (types_in c.self.inside.entries.items (map (prefix_of c.self.inside.context.now.context.types) c.self.inside.runs.items)) c.self.inside.context.now.context.types c.self.inside.base c.self.inside.unreachable c.args.self.now c.self.view_is c.self.invariant.1) c.requires) c.self.invariant.1
