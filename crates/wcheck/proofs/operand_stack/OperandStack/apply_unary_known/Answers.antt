use Rattle.std.proofs.Common.{◌-◌, map, take, refl, ◌∙◌, [], ◌∷◌, arith}
use Rattle.wcontext.specs.Lists.{prefix_of}
use Rattle.std.specs.Prelude.{set}
use Rattle.wcheck.specs.Runs.{types_in}
use Rattle.wcheck.proofs.KnownOperands.{one_off, one_over, one_over_counted}
use Rattle.wcheck.proofs.FrameOperands.{reaches, swapped, swapped_below, swapped_enough}
use Rattle.wcheck.proofs.operand_stack.OperandStack.apply_unary_known.Goals as goal

pub invariant_of-self : goal.invariant_of-self
invariant_of-self c =
    (one_over_counted c.self.inside.entries.items (map (prefix_of c.self.inside.context.now.context.types) c.self.inside.runs.items) (types_in c.self.inside.entries.items (map (prefix_of c.self.inside.context.now.context.types) c.self.inside.runs.items)) c.len-count.result c.index.result.now c.args.t refl (c.len-count.ensures ∙ c.self.inside.entries.ok.0) (omega (arith, c.if-count-self.false)) c.index.ensures (c.is_known.ensures c.if-not-is_known.false) c.packed.result c.args.u c.packed.ensures.value c.self.inside.run_surplus c.self.invariant.0, swapped_enough (types_in c.self.inside.entries.items (map (prefix_of c.self.inside.context.now.context.types) c.self.inside.runs.items)) (types_in (set c.self.inside.entries.items (c.len-count.result - 1) c.packed.result) (map (prefix_of c.self.inside.context.now.context.types) c.self.inside.runs.items)) c.self.inside.context.now.context.types c.self.inside.base c.self.inside.unreachable c.args.self.now c.self.view_is (types_in (take (c.len-count.result - 1) c.self.inside.entries.items) (map (prefix_of c.self.inside.context.now.context.types) c.self.inside.runs.items)) (c.args.t ∷ []) (c.args.u ∷ []) (one_off c.self.inside.entries.items (map (prefix_of c.self.inside.context.now.context.types) c.self.inside.runs.items) (types_in c.self.inside.entries.items (map (prefix_of c.self.inside.context.now.context.types) c.self.inside.runs.items)) c.len-count.result c.index.result.now c.args.t refl (c.len-count.ensures ∙ c.self.inside.entries.ok.0) (omega (arith, c.if-count-self.false)) c.index.ensures (c.is_known.ensures c.if-not-is_known.false)) (one_over c.self.inside.entries.items (map (prefix_of c.self.inside.context.now.context.types) c.self.inside.runs.items) (types_in c.self.inside.entries.items (map (prefix_of c.self.inside.context.now.context.types) c.self.inside.runs.items)) c.len-count.result c.index.result.now c.args.t refl (c.len-count.ensures ∙ c.self.inside.entries.ok.0) (omega (arith, c.if-count-self.false)) c.index.ensures (c.is_known.ensures c.if-not-is_known.false) c.packed.result c.args.u c.packed.ensures.value) (reaches c.self.inside.entries.items (map (prefix_of c.self.inside.context.now.context.types) c.self.inside.runs.items) c.len-count.result 1 c.self.inside.base (c.len-count.ensures ∙ c.self.inside.entries.ok.0) (omega (arith, c.if-count-self.false))))

pub returns-clause-above : goal.returns-clause-above
returns-clause-above c = λ _. swapped (types_in c.self.inside.entries.items (map (prefix_of c.self.inside.context.now.context.types) c.self.inside.runs.items)) (types_in (set c.self.inside.entries.items (c.len-count.result - 1) c.packed.result) (map (prefix_of c.self.inside.context.now.context.types) c.self.inside.runs.items)) c.self.inside.context.now.context.types c.self.inside.base c.self.inside.unreachable c.args.self.now c.self.view_is (types_in (take (c.len-count.result - 1) c.self.inside.entries.items) (map (prefix_of c.self.inside.context.now.context.types) c.self.inside.runs.items)) (c.args.t ∷ []) (c.args.u ∷ []) (one_off c.self.inside.entries.items (map (prefix_of c.self.inside.context.now.context.types) c.self.inside.runs.items) (types_in c.self.inside.entries.items (map (prefix_of c.self.inside.context.now.context.types) c.self.inside.runs.items)) c.len-count.result c.index.result.now c.args.t refl (c.len-count.ensures ∙ c.self.inside.entries.ok.0) (omega (arith, c.if-count-self.false)) c.index.ensures (c.is_known.ensures c.if-not-is_known.false)) (one_over c.self.inside.entries.items (map (prefix_of c.self.inside.context.now.context.types) c.self.inside.runs.items) (types_in c.self.inside.entries.items (map (prefix_of c.self.inside.context.now.context.types) c.self.inside.runs.items)) c.len-count.result c.index.result.now c.args.t refl (c.len-count.ensures ∙ c.self.inside.entries.ok.0) (omega (arith, c.if-count-self.false)) c.index.ensures (c.is_known.ensures c.if-not-is_known.false) c.packed.result c.args.u c.packed.ensures.value) (reaches c.self.inside.entries.items (map (prefix_of c.self.inside.context.now.context.types) c.self.inside.runs.items) c.len-count.result 1 c.self.inside.base (c.len-count.ensures ∙ c.self.inside.entries.ok.0) (omega (arith, c.if-count-self.false)))

pub returns-clause-below : goal.returns-clause-below
returns-clause-below c = swapped_below (types_in c.self.inside.entries.items (map (prefix_of c.self.inside.context.now.context.types) c.self.inside.runs.items)) (types_in (set c.self.inside.entries.items (c.len-count.result - 1) c.packed.result) (map (prefix_of c.self.inside.context.now.context.types) c.self.inside.runs.items)) c.self.inside.context.now.context.types c.self.inside.base c.self.inside.unreachable c.args.self.now c.self.view_is (types_in (take (c.len-count.result - 1) c.self.inside.entries.items) (map (prefix_of c.self.inside.context.now.context.types) c.self.inside.runs.items)) (c.args.t ∷ []) (c.args.u ∷ []) (one_off c.self.inside.entries.items (map (prefix_of c.self.inside.context.now.context.types) c.self.inside.runs.items) (types_in c.self.inside.entries.items (map (prefix_of c.self.inside.context.now.context.types) c.self.inside.runs.items)) c.len-count.result c.index.result.now c.args.t refl (c.len-count.ensures ∙ c.self.inside.entries.ok.0) (omega (arith, c.if-count-self.false)) c.index.ensures (c.is_known.ensures c.if-not-is_known.false)) (one_over c.self.inside.entries.items (map (prefix_of c.self.inside.context.now.context.types) c.self.inside.runs.items) (types_in c.self.inside.entries.items (map (prefix_of c.self.inside.context.now.context.types) c.self.inside.runs.items)) c.len-count.result c.index.result.now c.args.t refl (c.len-count.ensures ∙ c.self.inside.entries.ok.0) (omega (arith, c.if-count-self.false)) c.index.ensures (c.is_known.ensures c.if-not-is_known.false) c.packed.result c.args.u c.packed.ensures.value) (reaches c.self.inside.entries.items (map (prefix_of c.self.inside.context.now.context.types) c.self.inside.runs.items) c.len-count.result 1 c.self.inside.base (c.len-count.ensures ∙ c.self.inside.entries.ok.0) (omega (arith, c.if-count-self.false)))
