use Rattle.std.proofs.Common.{map, ap, sym, subst, refl, ◌∙◌, ◌++◌, [], ◌∷◌, arith}
use Rattle.wcontext.specs.Lists.{prefix_of}
use Rattle.wcheck.specs.Runs.{types_in, IsCounted}
use Rattle.wcheck.specs.Heights.{type_of}
use Rattle.wcheck.proofs.Stretched.{least}
use Rattle.wcheck.proofs.KnownOperands.{lone_off, lone_off_counted}
use Rattle.wcheck.proofs.FrameOperands.{dropped, one_below, one_enough}
use Rattle.wcheck.proofs.operand_stack.OperandStack.drop_known.Goals as goal

pub invariant_of-self : goal.invariant_of-self
invariant_of-self c =
    (subst (λ z. IsCounted z (map (prefix_of c.self.inside.context.now.context.types) c.self.inside.runs.items) c.self.inside.run_surplus) (sym c.truncate.ensures.items) (lone_off_counted c.self.inside.entries.items (map (prefix_of c.self.inside.context.now.context.types) c.self.inside.runs.items) (types_in c.self.inside.entries.items (map (prefix_of c.self.inside.context.now.context.types) c.self.inside.runs.items)) c.len-count.result c.index.result.now refl (c.len-count.ensures ∙ c.self.inside.entries.ok.0) (omega (arith, c.if-count-self.false)) c.index.ensures (sym c.is_run.ensures ∙ c.if-is_run.false) c.self.inside.run_surplus c.self.invariant.0), one_enough (types_in c.self.inside.entries.items (map (prefix_of c.self.inside.context.now.context.types) c.self.inside.runs.items)) (types_in c.truncate.new.self.items (map (prefix_of c.self.inside.context.now.context.types) c.self.inside.runs.items)) c.self.inside.context.now.context.types c.self.inside.base c.self.inside.unreachable c.args.self.now c.self.view_is (type_of c.index.result.now) (lone_off c.self.inside.entries.items (map (prefix_of c.self.inside.context.now.context.types) c.self.inside.runs.items) (types_in c.self.inside.entries.items (map (prefix_of c.self.inside.context.now.context.types) c.self.inside.runs.items)) c.len-count.result c.index.result.now refl (c.len-count.ensures ∙ c.self.inside.entries.ok.0) (omega (arith, c.if-count-self.false)) c.index.ensures (sym c.is_run.ensures ∙ c.if-is_run.false) ∙ ap (λ z. types_in z (map (prefix_of c.self.inside.context.now.context.types) c.self.inside.runs.items) ++ type_of c.index.result.now ∷ []) (sym c.truncate.ensures.items)) (omega (arith, c.if-count-self.false, c.len-count.ensures, c.self.inside.entries.ok.0, least c.self.inside.entries.items (map (prefix_of c.self.inside.context.now.context.types) c.self.inside.runs.items))))

pub returns-clause-above : goal.returns-clause-above
returns-clause-above c = λ _. dropped (types_in c.self.inside.entries.items (map (prefix_of c.self.inside.context.now.context.types) c.self.inside.runs.items)) (types_in c.truncate.new.self.items (map (prefix_of c.self.inside.context.now.context.types) c.self.inside.runs.items)) c.self.inside.context.now.context.types c.self.inside.base c.self.inside.unreachable c.args.self.now c.self.view_is (type_of c.index.result.now) (lone_off c.self.inside.entries.items (map (prefix_of c.self.inside.context.now.context.types) c.self.inside.runs.items) (types_in c.self.inside.entries.items (map (prefix_of c.self.inside.context.now.context.types) c.self.inside.runs.items)) c.len-count.result c.index.result.now refl (c.len-count.ensures ∙ c.self.inside.entries.ok.0) (omega (arith, c.if-count-self.false)) c.index.ensures (sym c.is_run.ensures ∙ c.if-is_run.false) ∙ ap (λ z. types_in z (map (prefix_of c.self.inside.context.now.context.types) c.self.inside.runs.items) ++ type_of c.index.result.now ∷ []) (sym c.truncate.ensures.items)) (omega (arith, c.if-count-self.false, c.len-count.ensures, c.self.inside.entries.ok.0, least c.self.inside.entries.items (map (prefix_of c.self.inside.context.now.context.types) c.self.inside.runs.items)))

pub returns-clause-below : goal.returns-clause-below
returns-clause-below c = one_below (types_in c.self.inside.entries.items (map (prefix_of c.self.inside.context.now.context.types) c.self.inside.runs.items)) (types_in c.truncate.new.self.items (map (prefix_of c.self.inside.context.now.context.types) c.self.inside.runs.items)) c.self.inside.context.now.context.types c.self.inside.base c.self.inside.unreachable c.args.self.now c.self.view_is (type_of c.index.result.now) (lone_off c.self.inside.entries.items (map (prefix_of c.self.inside.context.now.context.types) c.self.inside.runs.items) (types_in c.self.inside.entries.items (map (prefix_of c.self.inside.context.now.context.types) c.self.inside.runs.items)) c.len-count.result c.index.result.now refl (c.len-count.ensures ∙ c.self.inside.entries.ok.0) (omega (arith, c.if-count-self.false)) c.index.ensures (sym c.is_run.ensures ∙ c.if-is_run.false) ∙ ap (λ z. types_in z (map (prefix_of c.self.inside.context.now.context.types) c.self.inside.runs.items) ++ type_of c.index.result.now ∷ []) (sym c.truncate.ensures.items)) (omega (arith, c.if-count-self.false, c.len-count.ensures, c.self.inside.entries.ok.0, least c.self.inside.entries.items (map (prefix_of c.self.inside.context.now.context.types) c.self.inside.runs.items)))
