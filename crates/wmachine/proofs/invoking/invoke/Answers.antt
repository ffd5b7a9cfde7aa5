use Rattle.std.proofs.Common.{◌∙◌}
use Rattle.wmachine.proofs.GivingUp.{nothing_done, given_up, took_at_most}
use Rattle.wmachine.proofs.invoking.invoke.Goals as goal

pub returns-then-failed-clause-given_up : goal.returns-then-failed-clause-given_up
returns-then-failed-clause-given_up c =
    let rest = c.set_dispatches.ensures.rest in
    nothing_done c.args.instance.now c.set_dispatches.new.self c.args.function c.args.args.now c.args.fuel.now.left c.args.frames rest.0 rest.1 c.set_dispatches.ensures.noted

pub returns-then-failed-clause-bounded : goal.returns-then-failed-clause-bounded
returns-then-failed-clause-bounded c =
    let rest = c.set_dispatches.ensures.rest in
    took_at_most c.args.instance.now c.set_dispatches.new.self c.args.function c.args.args.now c.args.fuel.now.left c.args.frames
    (nothing_done c.args.instance.now c.set_dispatches.new.self c.args.function c.args.args.now c.args.fuel.now.left c.args.frames rest.0 rest.1 c.set_dispatches.ensures.noted)

pub returns-in-Err-clause-given_up : goal.returns-in-Err-clause-given_up
returns-in-Err-clause-given_up c =
    let noted = c.set_dispatches-in-Err.ensures in
    let rest = c.fail.ensures.rest in
    given_up c.args.instance.now c.execute.new.self c.fail.new.self c.args.function c.args.args.now c.args.fuel.now.left c.left.result c.args.frames c.in-Err.refused.left c.in-Err.refused.dispatches c.left.ensures c.in-Err.ensures.refused
    (rest.0 ∙ noted.rest.0) (rest.1 ∙ noted.rest.1) (rest.3 ∙ noted.noted)

pub returns-in-Err-clause-bounded : goal.returns-in-Err-clause-bounded
returns-in-Err-clause-bounded c =
    let noted = c.set_dispatches-in-Err.ensures in
    let rest = c.fail.ensures.rest in
    took_at_most c.args.instance.now c.fail.new.self c.args.function c.args.args.now c.args.fuel.now.left c.args.frames
    (given_up c.args.instance.now c.execute.new.self c.fail.new.self c.args.function c.args.args.now c.args.fuel.now.left c.left.result c.args.frames c.in-Err.refused.left c.in-Err.refused.dispatches c.left.ensures c.in-Err.ensures.refused
    (rest.0 ∙ noted.rest.0) (rest.1 ∙ noted.rest.1) (rest.3 ∙ noted.noted))
