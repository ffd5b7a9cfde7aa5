use Rattle.verdict.proofs.OnePass.{looked_behind}
use Rattle.verdict.proofs.passing.access_passes.Goals as goal

pub returns-then-try_fast_step-clause-passes : goal.returns-then-try_fast_step-clause-passes
returns-then-try_fast_step-clause-passes c = looked_behind c.args.checker.now c.try_fast_step.new.self _ c.in-Some.after.now c.in-Some.token c.in-Some.ensures (c.try_fast_step.ensures.step c.if-try_fast_step.true) (c.try_fast_step.ensures.same c.if-try_fast_step.true)

pub returns-then-try_fast_step-2-clause-passes : goal.returns-then-try_fast_step-2-clause-passes
returns-then-try_fast_step-2-clause-passes c = looked_behind c.args.checker.now c.try_fast_step-in-Some-load_at.new.self _ c.in-Some-load_at.after.now c.in-Some-load_at.token c.in-Some-load_at.ensures (c.try_fast_step-in-Some-load_at.ensures.step c.if-try_fast_step-2.true) (c.try_fast_step-in-Some-load_at.ensures.same c.if-try_fast_step-2.true)

pub returns-then-try_fast_step-3-clause-passes : goal.returns-then-try_fast_step-3-clause-passes
returns-then-try_fast_step-3-clause-passes c = looked_behind c.args.checker.now c.try_fast_step-in-Some-load_at-2.new.self _ c.in-Some-load_at-2.after.now c.in-Some-load_at-2.token c.in-Some-load_at-2.ensures (c.try_fast_step-in-Some-load_at-2.ensures.step c.if-try_fast_step-3.true) (c.try_fast_step-in-Some-load_at-2.ensures.same c.if-try_fast_step-3.true)

pub returns-then-try_fast_step-4-clause-passes : goal.returns-then-try_fast_step-4-clause-passes
returns-then-try_fast_step-4-clause-passes c = looked_behind c.args.checker.now c.try_fast_step-in-Some-load_at-3.new.self _ c.in-Some-load_at-3.after.now c.in-Some-load_at-3.token c.in-Some-load_at-3.ensures (c.try_fast_step-in-Some-load_at-3.ensures.step c.if-try_fast_step-4.true) (c.try_fast_step-in-Some-load_at-3.ensures.same c.if-try_fast_step-4.true)

pub returns-then-try_fast_step-5-clause-passes : goal.returns-then-try_fast_step-5-clause-passes
returns-then-try_fast_step-5-clause-passes c = looked_behind c.args.checker.now c.try_fast_step-in-Some-load_at-4.new.self _ c.in-Some-load_at-4.after.now c.in-Some-load_at-4.token c.in-Some-load_at-4.ensures (c.try_fast_step-in-Some-load_at-4.ensures.step c.if-try_fast_step-5.true) (c.try_fast_step-in-Some-load_at-4.ensures.same c.if-try_fast_step-5.true)

pub returns-then-try_fast_step-6-clause-passes : goal.returns-then-try_fast_step-6-clause-passes
returns-then-try_fast_step-6-clause-passes c = looked_behind c.args.checker.now c.try_fast_step-in-Some-load_at-5.new.self _ c.in-Some-load_at-5.after.now c.in-Some-load_at-5.token c.in-Some-load_at-5.ensures (c.try_fast_step-in-Some-load_at-5.ensures.step c.if-try_fast_step-6.true) (c.try_fast_step-in-Some-load_at-5.ensures.same c.if-try_fast_step-6.true)

pub returns-then-try_fast_step-7-clause-passes : goal.returns-then-try_fast_step-7-clause-passes
returns-then-try_fast_step-7-clause-passes c = looked_behind c.args.checker.now c.try_fast_step-in-Some-store_at.new.self _ c.in-Some-store_at.after.now c.in-Some-store_at.token c.in-Some-store_at.ensures (c.try_fast_step-in-Some-store_at.ensures.step c.if-try_fast_step-7.true) (c.try_fast_step-in-Some-store_at.ensures.same c.if-try_fast_step-7.true)

pub returns-then-try_fast_step-8-clause-passes : goal.returns-then-try_fast_step-8-clause-passes
returns-then-try_fast_step-8-clause-passes c = looked_behind c.args.checker.now c.try_fast_step-in-Some-store_at-2.new.self _ c.in-Some-store_at-2.after.now c.in-Some-store_at-2.token c.in-Some-store_at-2.ensures (c.try_fast_step-in-Some-store_at-2.ensures.step c.if-try_fast_step-8.true) (c.try_fast_step-in-Some-store_at-2.ensures.same c.if-try_fast_step-8.true)

pub returns-then-try_fast_step-9-clause-passes : goal.returns-then-try_fast_step-9-clause-passes
returns-then-try_fast_step-9-clause-passes c = looked_behind c.args.checker.now c.try_fast_step-in-Some-store_at-3.new.self _ c.in-Some-store_at-3.after.now c.in-Some-store_at-3.token c.in-Some-store_at-3.ensures (c.try_fast_step-in-Some-store_at-3.ensures.step c.if-try_fast_step-9.true) (c.try_fast_step-in-Some-store_at-3.ensures.same c.if-try_fast_step-9.true)

pub returns-then-try_fast_step-10-clause-passes : goal.returns-then-try_fast_step-10-clause-passes
returns-then-try_fast_step-10-clause-passes c = looked_behind c.args.checker.now c.try_fast_step-in-Some-store_at-4.new.self _ c.in-Some-store_at-4.after.now c.in-Some-store_at-4.token c.in-Some-store_at-4.ensures (c.try_fast_step-in-Some-store_at-4.ensures.step c.if-try_fast_step-10.true) (c.try_fast_step-in-Some-store_at-4.ensures.same c.if-try_fast_step-10.true)

pub returns-then-try_fast_step-11-clause-passes : goal.returns-then-try_fast_step-11-clause-passes
returns-then-try_fast_step-11-clause-passes c = looked_behind c.args.checker.now c.try_fast_step-in-Some-variable_at.new.self _ c.in-Some-variable_at.after.now c.in-Some-variable_at.token c.in-Some-variable_at.ensures (c.try_fast_step-in-Some-variable_at.ensures.step c.if-try_fast_step-11.true) (c.try_fast_step-in-Some-variable_at.ensures.same c.if-try_fast_step-11.true)

pub returns-then-try_fast_step-12-clause-passes : goal.returns-then-try_fast_step-12-clause-passes
returns-then-try_fast_step-12-clause-passes c = looked_behind c.args.checker.now c.try_fast_step-in-Some-variable_at-2.new.self _ c.in-Some-variable_at-2.after.now c.in-Some-variable_at-2.token c.in-Some-variable_at-2.ensures (c.try_fast_step-in-Some-variable_at-2.ensures.step c.if-try_fast_step-12.true) (c.try_fast_step-in-Some-variable_at-2.ensures.same c.if-try_fast_step-12.true)
