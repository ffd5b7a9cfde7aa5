use Rattle.std.proofs.Common.{◌<◌, ◌-◌, ◌+◌, map, length, ap, sym, subst, refl, ◌∙◌, ◌++◌, Some}
use Rattle.wcontext.specs.Lists.{prefix_of}
use Rattle.wcontext.specs.Lists.{list_of}
use Rattle.std.specs.Prelude.{reverse}
use Rattle.wcheck.specs.Runs.{types_in}
use Rattle.wcheck.proofs.ReversedLists.{map-reverse}
use Rattle.wcheck.proofs.Pushed.{whole_list, run_pushed, run_pushed_counted, ok_items}
use Rattle.wcheck.proofs.FrameOperands.{more_below, more_above, more_enough}
use Rattle.wcheck.proofs.operand_stack.OperandStack.push_run.Goals as goal

pub invariant_of-self-2 : goal.invariant_of-self-2
invariant_of-self-2 c =
    (run_pushed_counted c.self.inside.context.now.context.types c.self.inside.entries.items c.push.new.self.items c.self.inside.runs.items c.push-2.new.self.items record { list = c.args.list; count = c.args.count } (list_of c.self.inside.context.now.context.types c.args.list) (whole_list c.self.inside.context.now.context.types c.args.list c.args.count (c.requires.all ∙ ap (λ z. length (list_of z.types c.args.list)) (sym c.self.view_is))) c.in_ok-push.ensures.items (ok_items c.push-2.result c.is_err.result c.push-2.new.self.items _ _ c.is_err.ensures.value c.if-is_err.false c.push-2.ensures.items) c.self.inside.run_surplus _ (ap (λ n. c.self.inside.run_surplus + (n - 1)) (c.requires.all ∙ ap (λ z. length (list_of z.types c.args.list)) (sym c.self.view_is))) c.if-run_surplus-gt-MOST.false c.self.invariant.0, more_enough (types_in c.self.inside.entries.items (map (prefix_of c.self.inside.context.now.context.types) c.self.inside.runs.items)) (types_in c.push.new.self.items (map (prefix_of c.self.inside.context.now.context.types) c.push-2.new.self.items)) c.self.inside.context.now.context.types c.self.inside.base c.self.inside.unreachable c.args.self.now c.self.view_is (map Some (list_of c.self.inside.context.now.context.types c.args.list)) (run_pushed c.self.inside.context.now.context.types c.self.inside.entries.items c.push.new.self.items c.self.inside.runs.items c.push-2.new.self.items record { list = c.args.list; count = c.args.count } (list_of c.self.inside.context.now.context.types c.args.list) (whole_list c.self.inside.context.now.context.types c.args.list c.args.count (c.requires.all ∙ ap (λ z. length (list_of z.types c.args.list)) (sym c.self.view_is))) c.in_ok-push.ensures.items (ok_items c.push-2.result c.is_err.result c.push-2.new.self.items _ _ c.is_err.ensures.value c.if-is_err.false c.push-2.ensures.items) (types_in c.self.inside.entries.items (map (prefix_of c.self.inside.context.now.context.types) c.self.inside.runs.items)) refl (subst (λ n. 0 < n) (c.requires.all ∙ ap (λ z. length (list_of z.types c.args.list)) (sym c.self.view_is)) c.requires.some)) c.self.invariant.1)

pub returns-clause-above : goal.returns-clause-above
returns-clause-above c =
    more_above (types_in c.self.inside.entries.items (map (prefix_of c.self.inside.context.now.context.types) c.self.inside.runs.items)) (types_in c.push.new.self.items (map (prefix_of c.self.inside.context.now.context.types) c.push-2.new.self.items)) c.self.inside.context.now.context.types c.self.inside.base c.self.inside.unreachable c.args.self.now c.self.view_is (map Some (list_of c.self.inside.context.now.context.types c.args.list)) (run_pushed c.self.inside.context.now.context.types c.self.inside.entries.items c.push.new.self.items c.self.inside.runs.items c.push-2.new.self.items record { list = c.args.list; count = c.args.count } (list_of c.self.inside.context.now.context.types c.args.list) (whole_list c.self.inside.context.now.context.types c.args.list c.args.count (c.requires.all ∙ ap (λ z. length (list_of z.types c.args.list)) (sym c.self.view_is))) c.in_ok-push.ensures.items (ok_items c.push-2.result c.is_err.result c.push-2.new.self.items _ _ c.is_err.ensures.value c.if-is_err.false c.push-2.ensures.items) (types_in c.self.inside.entries.items (map (prefix_of c.self.inside.context.now.context.types) c.self.inside.runs.items)) refl (subst (λ n. 0 < n) (c.requires.all ∙ ap (λ z. length (list_of z.types c.args.list)) (sym c.self.view_is)) c.requires.some)) c.self.invariant.1
    ∙ ap (λ z. record { known = z ++ c.args.self.now.above.known; is_dead = c.args.self.now.above.is_dead }) (sym (map-reverse Some (list_of c.self.inside.context.now.context.types c.args.list)) ∙ ap (λ z. map Some (reverse (list_of z.types c.args.list))) c.self.view_is)

pub returns-clause-below : goal.returns-clause-below
returns-clause-below c = more_below (types_in c.self.inside.entries.items (map (prefix_of c.self.inside.context.now.context.types) c.self.inside.runs.items)) (types_in c.push.new.self.items (map (prefix_of c.self.inside.context.now.context.types) c.push-2.new.self.items)) c.self.inside.context.now.context.types c.self.inside.base c.self.inside.unreachable c.args.self.now c.self.view_is (map Some (list_of c.self.inside.context.now.context.types c.args.list)) (run_pushed c.self.inside.context.now.context.types c.self.inside.entries.items c.push.new.self.items c.self.inside.runs.items c.push-2.new.self.items record { list = c.args.list; count = c.args.count } (list_of c.self.inside.context.now.context.types c.args.list) (whole_list c.self.inside.context.now.context.types c.args.list c.args.count (c.requires.all ∙ ap (λ z. length (list_of z.types c.args.list)) (sym c.self.view_is))) c.in_ok-push.ensures.items (ok_items c.push-2.result c.is_err.result c.push-2.new.self.items _ _ c.is_err.ensures.value c.if-is_err.false c.push-2.ensures.items) (types_in c.self.inside.entries.items (map (prefix_of c.self.inside.context.now.context.types) c.self.inside.runs.items)) refl (subst (λ n. 0 < n) (c.requires.all ∙ ap (λ z. length (list_of z.types c.args.list)) (sym c.self.view_is)) c.requires.some)) c.self.invariant.1
