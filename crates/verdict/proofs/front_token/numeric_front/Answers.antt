use Rattle.verdict.proofs.FrontTokens.{looked_behind}
use Rattle.verdict.proofs.front_token.numeric_front.Goals as goal

pub returns-then-try_fast_step-clause-passes : goal.returns-then-try_fast_step-clause-passes
returns-then-try_fast_step-clause-passes c = looked_behind c.args.checker.now c.try_fast_step.new.self _ c.in-Some.after.now c.in-Some.token c.in-Some.ensures (c.try_fast_step.ensures.step c.if-try_fast_step.true) (c.try_fast_step.ensures.same c.if-try_fast_step.true)

pub returns-then-try_fast_step-2-clause-passes : goal.returns-then-try_fast_step-2-clause-passes
returns-then-try_fast_step-2-clause-passes c = looked_behind c.args.checker.now c.try_fast_step-in-Some-load_at.new.self _ c.in-Some-load_at.after.now c.in-Some-load_at.token c.in-Some-load_at.ensures (c.try_fast_step-in-Some-load_at.ensures.step c.if-try_fast_step-2.true) (c.try_fast_step-in-Some-load_at.ensures.same c.if-try_fast_step-2.true)

pub returns-then-try_fast_step-3-clause-passes : goal.returns-then-try_fast_step-3-clause-passes
returns-then-try_fast_step-3-clause-passes c = looked_behind c.args.checker.now c.try_fast_step-in-Some-store_at.new.self _ c.in-Some-store_at.after.now c.in-Some-store_at.token c.in-Some-store_at.ensures (c.try_fast_step-in-Some-store_at.ensures.step c.if-try_fast_step-3.true) (c.try_fast_step-in-Some-store_at.ensures.same c.if-try_fast_step-3.true)
