use Rattle.std.proofs.Common.{◌-◌, map, take, ap, sym, subst, refl, ◌∙◌, [], ◌∷◌, arith}
use Rattle.wcontext.specs.Lists.{prefix_of}
use Rattle.std.proofs.lemmas.List.{append-nil}
use Rattle.wcheck.specs.Runs.{types_in, IsCounted}
use Rattle.wcheck.proofs.KnownOperands.{two_off, two_off_counted}
use Rattle.wcheck.proofs.FrameOperands.{reaches, swapped, swapped_below, swapped_enough}
use Rattle.wcheck.proofs.operand_stack.OperandStack.pop_two_known.Goals as goal

pub invariant_of-self : goal.invariant_of-self
invariant_of-self c =
    (subst (λ z. IsCounted z (map (prefix_of c.self.inside.context.now.context.types) c.self.inside.runs.items) c.self.inside.run_surplus) (sym c.truncate.ensures.items) (two_off_counted c.self.inside.entries.items (map (prefix_of c.self.inside.context.now.context.types) c.self.inside.runs.items) (types_in c.self.inside.entries.items (map (prefix_of c.self.inside.context.now.context.types) c.self.inside.runs.items)) c.len-count.result c.index.result.now c.index-else-not-is_known.result.now c.args.u c.args.t refl (c.len-count.ensures ∙ c.self.inside.entries.ok.0) (omega (arith, c.if-count-lt2.false)) c.index.ensures c.index-else-not-is_known.ensures (c.is_known.ensures c.if-not-is_known.false) (c.is_known-else-not-is_known.ensures c.if-not-is_known-2.false) c.self.inside.run_surplus c.self.invariant.0), swapped_enough (types_in c.self.inside.entries.items (map (prefix_of c.self.inside.context.now.context.types) c.self.inside.runs.items)) (types_in c.truncate.new.self.items (map (prefix_of c.self.inside.context.now.context.types) c.self.inside.runs.items)) c.self.inside.context.now.context.types c.self.inside.base c.self.inside.unreachable c.args.self.now c.self.view_is (types_in (take (c.len-count.result - 2) c.self.inside.entries.items) (map (prefix_of c.self.inside.context.now.context.types) c.self.inside.runs.items)) (c.args.u ∷ c.args.t ∷ []) [] (two_off c.self.inside.entries.items (map (prefix_of c.self.inside.context.now.context.types) c.self.inside.runs.items) (types_in c.self.inside.entries.items (map (prefix_of c.self.inside.context.now.context.types) c.self.inside.runs.items)) c.len-count.result c.index.result.now c.index-else-not-is_known.result.now c.args.u c.args.t refl (c.len-count.ensures ∙ c.self.inside.entries.ok.0) (omega (arith, c.if-count-lt2.false)) c.index.ensures c.index-else-not-is_known.ensures (c.is_known.ensures c.if-not-is_known.false) (c.is_known-else-not-is_known.ensures c.if-not-is_known-2.false)) (ap (λ z. types_in z (map (prefix_of c.self.inside.context.now.context.types) c.self.inside.runs.items)) c.truncate.ensures.items ∙ sym (append-nil (types_in (take (c.len-count.result - 2) c.self.inside.entries.items) (map (prefix_of c.self.inside.context.now.context.types) c.self.inside.runs.items)))) (reaches c.self.inside.entries.items (map (prefix_of c.self.inside.context.now.context.types) c.self.inside.runs.items) c.len-count.result 2 c.self.inside.base (c.len-count.ensures ∙ c.self.inside.entries.ok.0) (omega (arith, c.if-count-self.false))))

pub returns-clause-above : goal.returns-clause-above
returns-clause-above c = λ _. swapped (types_in c.self.inside.entries.items (map (prefix_of c.self.inside.context.now.context.types) c.self.inside.runs.items)) (types_in c.truncate.new.self.items (map (prefix_of c.self.inside.context.now.context.types) c.self.inside.runs.items)) c.self.inside.context.now.context.types c.self.inside.base c.self.inside.unreachable c.args.self.now c.self.view_is (types_in (take (c.len-count.result - 2) c.self.inside.entries.items) (map (prefix_of c.self.inside.context.now.context.types) c.self.inside.runs.items)) (c.args.u ∷ c.args.t ∷ []) [] (two_off c.self.inside.entries.items (map (prefix_of c.self.inside.context.now.context.types) c.self.inside.runs.items) (types_in c.self.inside.entries.items (map (prefix_of c.self.inside.context.now.context.types) c.self.inside.runs.items)) c.len-count.result c.index.result.now c.index-else-not-is_known.result.now c.args.u c.args.t refl (c.len-count.ensures ∙ c.self.inside.entries.ok.0) (omega (arith, c.if-count-lt2.false)) c.index.ensures c.index-else-not-is_known.ensures (c.is_known.ensures c.if-not-is_known.false) (c.is_known-else-not-is_known.ensures c.if-not-is_known-2.false)) (ap (λ z. types_in z (map (prefix_of c.self.inside.context.now.context.types) c.self.inside.runs.items)) c.truncate.ensures.items ∙ sym (append-nil (types_in (take (c.len-count.result - 2) c.self.inside.entries.items) (map (prefix_of c.self.inside.context.now.context.types) c.self.inside.runs.items)))) (reaches c.self.inside.entries.items (map (prefix_of c.self.inside.context.now.context.types) c.self.inside.runs.items) c.len-count.result 2 c.self.inside.base (c.len-count.ensures ∙ c.self.inside.entries.ok.0) (omega (arith, c.if-count-self.false)))

pub returns-clause-below : goal.returns-clause-below
returns-clause-below c = swapped_below (types_in c.self.inside.entries.items (map (prefix_of c.self.inside.context.now.context.types) c.self.inside.runs.items)) (types_in c.truncate.new.self.items (map (prefix_of c.self.inside.context.now.context.types) c.self.inside.runs.items)) c.self.inside.context.now.context.types c.self.inside.base c.self.inside.unreachable c.args.self.now c.self.view_is (types_in (take (c.len-count.result - 2) c.self.inside.entries.items) (map (prefix_of c.self.inside.context.now.context.types) c.self.inside.runs.items)) (c.args.u ∷ c.args.t ∷ []) [] (two_off c.self.inside.entries.items (map (prefix_of c.self.inside.context.now.context.types) c.self.inside.runs.items) (types_in c.self.inside.entries.items (map (prefix_of c.self.inside.context.now.context.types) c.self.inside.runs.items)) c.len-count.result c.index.result.now c.index-else-not-is_known.result.now c.args.u c.args.t refl (c.len-count.ensures ∙ c.self.inside.entries.ok.0) (omega (arith, c.if-count-lt2.false)) c.index.ensures c.index-else-not-is_known.ensures (c.is_known.ensures c.if-not-is_known.false) (c.is_known-else-not-is_known.ensures c.if-not-is_known-2.false)) (ap (λ z. types_in z (map (prefix_of c.self.inside.context.now.context.types) c.self.inside.runs.items)) c.truncate.ensures.items ∙ sym (append-nil (types_in (take (c.len-count.result - 2) c.self.inside.entries.items) (map (prefix_of c.self.inside.context.now.context.types) c.self.inside.runs.items)))) (reaches c.self.inside.entries.items (map (prefix_of c.self.inside.context.now.context.types) c.self.inside.runs.items) c.len-count.result 2 c.self.inside.base (c.len-count.ensures ∙ c.self.inside.entries.ok.0) (omega (arith, c.if-count-self.false)))
