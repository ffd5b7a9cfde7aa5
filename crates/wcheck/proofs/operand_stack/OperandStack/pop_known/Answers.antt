use Rattle.std.proofs.Common.{map, ap, sym, subst, refl, ◌∙◌, ◌++◌, [], ◌∷◌, Some, arith}
use Rattle.wcontext.specs.Lists.{prefix_of}
use Rattle.wcheck.specs.Runs.{types_in, IsCounted}
use Rattle.wcheck.proofs.Stretched.{least}
use Rattle.wcheck.proofs.KnownOperands.{one_off, one_off_counted}
use Rattle.wcheck.proofs.FrameOperands.{one_taken, one_below, one_enough}
use Rattle.wcheck.proofs.operand_stack.OperandStack.pop_known.Goals as goal

pub invariant_of-self : goal.invariant_of-self
invariant_of-self c =
    (subst (λ z. IsCounted z (map (prefix_of c.self.inside.context.now.context.types) c.self.inside.runs.items) c.self.inside.run_surplus) (sym c.truncate.ensures.items) (one_off_counted c.self.inside.entries.items (map (prefix_of c.self.inside.context.now.context.types) c.self.inside.runs.items) (types_in c.self.inside.entries.items (map (prefix_of c.self.inside.context.now.context.types) c.self.inside.runs.items)) c.len-count.result c.index.result.now c.args.t refl (c.len-count.ensures ∙ c.self.inside.entries.ok.0) (omega (arith, c.if-count-self.false)) c.index.ensures (c.is_known.ensures c.if-not-is_known.false) c.self.inside.run_surplus c.self.invariant.0), one_enough (types_in c.self.inside.entries.items (map (prefix_of c.self.inside.context.now.context.types) c.self.inside.runs.items)) (types_in c.truncate.new.self.items (map (prefix_of c.self.inside.context.now.context.types) c.self.inside.runs.items)) c.self.inside.context.now.context.types c.self.inside.base c.self.inside.unreachable c.args.self.now c.self.view_is (Some c.args.t) (one_off c.self.inside.entries.items (map (prefix_of c.self.inside.context.now.context.types) c.self.inside.runs.items) (types_in c.self.inside.entries.items (map (prefix_of c.self.inside.context.now.context.types) c.self.inside.runs.items)) c.len-count.result c.index.result.now c.args.t refl (c.len-count.ensures ∙ c.self.inside.entries.ok.0) (omega (arith, c.if-count-self.false)) c.index.ensures (c.is_known.ensures c.if-not-is_known.false) ∙ ap (λ z. types_in z (map (prefix_of c.self.inside.context.now.context.types) c.self.inside.runs.items) ++ Some c.args.t ∷ []) (sym c.truncate.ensures.items)) (omega (arith, c.if-count-self.false, c.len-count.ensures, c.self.inside.entries.ok.0, least c.self.inside.entries.items (map (prefix_of c.self.inside.context.now.context.types) c.self.inside.runs.items))))

pub returns-clause-above : goal.returns-clause-above
returns-clause-above c = λ _. one_taken (types_in c.self.inside.entries.items (map (prefix_of c.self.inside.context.now.context.types) c.self.inside.runs.items)) (types_in c.truncate.new.self.items (map (prefix_of c.self.inside.context.now.context.types) c.self.inside.runs.items)) c.self.inside.context.now.context.types c.self.inside.base c.self.inside.unreachable c.args.self.now c.self.view_is (Some c.args.t) (one_off c.self.inside.entries.items (map (prefix_of c.self.inside.context.now.context.types) c.self.inside.runs.items) (types_in c.self.inside.entries.items (map (prefix_of c.self.inside.context.now.context.types) c.self.inside.runs.items)) c.len-count.result c.index.result.now c.args.t refl (c.len-count.ensures ∙ c.self.inside.entries.ok.0) (omega (arith, c.if-count-self.false)) c.index.ensures (c.is_known.ensures c.if-not-is_known.false) ∙ ap (λ z. types_in z (map (prefix_of c.self.inside.context.now.context.types) c.self.inside.runs.items) ++ Some c.args.t ∷ []) (sym c.truncate.ensures.items)) (omega (arith, c.if-count-self.false, c.len-count.ensures, c.self.inside.entries.ok.0, least c.self.inside.entries.items (map (prefix_of c.self.inside.context.now.context.types) c.self.inside.runs.items))) c.args.t refl

pub returns-clause-below : goal.returns-clause-below
returns-clause-below c = one_below (types_in c.self.inside.entries.items (map (prefix_of c.self.inside.context.now.context.types) c.self.inside.runs.items)) (types_in c.truncate.new.self.items (map (prefix_of c.self.inside.context.now.context.types) c.self.inside.runs.items)) c.self.inside.context.now.context.types c.self.inside.base c.self.inside.unreachable c.args.self.now c.self.view_is (Some c.args.t) (one_off c.self.inside.entries.items (map (prefix_of c.self.inside.context.now.context.types) c.self.inside.runs.items) (types_in c.self.inside.entries.items (map (prefix_of c.self.inside.context.now.context.types) c.self.inside.runs.items)) c.len-count.result c.index.result.now c.args.t refl (c.len-count.ensures ∙ c.self.inside.entries.ok.0) (omega (arith, c.if-count-self.false)) c.index.ensures (c.is_known.ensures c.if-not-is_known.false) ∙ ap (λ z. types_in z (map (prefix_of c.self.inside.context.now.context.types) c.self.inside.runs.items) ++ Some c.args.t ∷ []) (sym c.truncate.ensures.items)) (omega (arith, c.if-count-self.false, c.len-count.ensures, c.self.inside.entries.ok.0, least c.self.inside.entries.items (map (prefix_of c.self.inside.context.now.context.types) c.self.inside.runs.items)))
