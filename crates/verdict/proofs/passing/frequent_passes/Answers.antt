use Rattle.std.proofs.Common.{[], refl}
use Rattle.wsyntax.specs.Instructions.{Do, Drop, Select, Return, Unreachable, Nop, Else, End}
use Rattle.verdict.proofs.OnePass.{looked, looked_open, looked_one, looked_known, end_read, else_read, drop_read, select_read, return_read, unreachable_read, nop_read}
use Rattle.verdict.proofs.passing.frequent_passes.Goals as goal

pub returns-in-11-clause-passes : goal.returns-in-11-clause-passes
returns-in-11-clause-passes c = looked_one c.args.checker.now c.step.new.self c.args.bytes.now _ 11 End c.step.result c.as_first_token.result c.in-len1-up.len_at_least c.in-11.is refl end_read c.step.ensures.step c.step.ensures.same c.as_first_token.ensures

pub returns-in-Some-clause-passes : goal.returns-in-Some-clause-passes
returns-in-Some-clause-passes c = looked c.args.checker.now c.step-in-Some.new.self c.args.bytes.now c.in-Some.after [] 13 c.in-Some.token c.step-in-Some.result c.as_first_token-in-Some.result c.in-len1-up.len_at_least c.in-13.is c.in-Some.ensures c.step-in-Some.ensures.step c.step-in-Some.ensures.same c.as_first_token-in-Some.ensures

pub returns-in-Some-call_at-clause-passes : goal.returns-in-Some-call_at-clause-passes
returns-in-Some-call_at-clause-passes c = looked c.args.checker.now c.step-in-Some-call_at.new.self c.args.bytes.now c.in-Some-call_at.after [] 16 c.in-Some-call_at.token c.step-in-Some-call_at.result c.as_first_token-in-Some-call_at.result c.in-len1-up.len_at_least c.in-16.is c.in-Some-call_at.ensures c.step-in-Some-call_at.ensures.step c.step-in-Some-call_at.ensures.same c.as_first_token-in-Some-call_at.ensures

pub returns-in-26-clause-passes : goal.returns-in-26-clause-passes
returns-in-26-clause-passes c = looked_one c.args.checker.now c.step-in-26.new.self c.args.bytes.now _ 26 (Do Drop) c.step-in-26.result c.as_first_token-in-26.result c.in-len1-up.len_at_least c.in-26.is refl drop_read c.step-in-26.ensures.step c.step-in-26.ensures.same c.as_first_token-in-26.ensures

pub returns-in-27-clause-passes : goal.returns-in-27-clause-passes
returns-in-27-clause-passes c = looked_one c.args.checker.now c.step-in-27.new.self c.args.bytes.now _ 27 (Do Select) c.step-in-27.result c.as_first_token-in-27.result c.in-len1-up.len_at_least c.in-27.is refl select_read c.step-in-27.ensures.step c.step-in-27.ensures.same c.as_first_token-in-27.ensures

pub returns-in-5-clause-passes : goal.returns-in-5-clause-passes
returns-in-5-clause-passes c = looked_one c.args.checker.now c.step-in-5.new.self c.args.bytes.now _ 5 Else c.step-in-5.result c.as_first_token-in-5.result c.in-len1-up.len_at_least c.in-5.is refl else_read c.step-in-5.ensures.step c.step-in-5.ensures.same c.as_first_token-in-5.ensures

pub returns-in-15-clause-passes : goal.returns-in-15-clause-passes
returns-in-15-clause-passes c = looked_one c.args.checker.now c.step-in-15.new.self c.args.bytes.now _ 15 (Do Return) c.step-in-15.result c.as_first_token-in-15.result c.in-len1-up.len_at_least c.in-15.is refl return_read c.step-in-15.ensures.step c.step-in-15.ensures.same c.as_first_token-in-15.ensures

pub returns-in-0-clause-passes : goal.returns-in-0-clause-passes
returns-in-0-clause-passes c = looked_one c.args.checker.now c.step-in-0.new.self c.args.bytes.now _ 0 (Do Unreachable) c.step-in-0.result c.as_first_token-in-0.result c.in-len1-up.len_at_least c.in-0.is refl unreachable_read c.step-in-0.ensures.step c.step-in-0.ensures.same c.as_first_token-in-0.ensures

pub returns-in-1-clause-passes : goal.returns-in-1-clause-passes
returns-in-1-clause-passes c = looked_one c.args.checker.now c.step-in-1.new.self c.args.bytes.now _ 1 (Do Nop) c.step-in-1.result c.as_first_token-in-1.result c.in-len1-up.len_at_least c.in-1.is refl nop_read c.step-in-1.ensures.step c.step-in-1.ensures.same c.as_first_token-in-1.ensures

pub returns-in-Some-block_start-clause-passes : goal.returns-in-Some-block_start-clause-passes
returns-in-Some-block_start-clause-passes c = looked_open c.args.checker.now c.step-in-Some-block_start.new.self c.args.bytes.now c.in-Some-block_start.after [] 2 c.in-Some-block_start.token c.step-in-Some-block_start.result c.as_first_token-in-Some-block_start.result c.in-len1-up.len_at_least c.in-2.is c.in-Some-block_start.ensures c.step-in-Some-block_start.ensures.step c.step-in-Some-block_start.ensures.same c.as_first_token-in-Some-block_start.ensures

pub returns-in-Some-block_start-2-clause-passes : goal.returns-in-Some-block_start-2-clause-passes
returns-in-Some-block_start-2-clause-passes c = looked_open c.args.checker.now c.step-in-Some-block_start-2.new.self c.args.bytes.now c.in-Some-block_start-2.after [] 3 c.in-Some-block_start-2.token c.step-in-Some-block_start-2.result c.as_first_token-in-Some-block_start-2.result c.in-len1-up.len_at_least c.in-3.is c.in-Some-block_start-2.ensures c.step-in-Some-block_start-2.ensures.step c.step-in-Some-block_start-2.ensures.same c.as_first_token-in-Some-block_start-2.ensures

pub returns-in-Some-block_start-3-clause-passes : goal.returns-in-Some-block_start-3-clause-passes
returns-in-Some-block_start-3-clause-passes c = looked_open c.args.checker.now c.step-in-Some-block_start-3.new.self c.args.bytes.now c.in-Some-block_start-3.after [] 4 c.in-Some-block_start-3.token c.step-in-Some-block_start-3.result c.as_first_token-in-Some-block_start-3.result c.in-len1-up.len_at_least c.in-4.is c.in-Some-block_start-3.ensures c.step-in-Some-block_start-3.ensures.step c.step-in-Some-block_start-3.ensures.same c.as_first_token-in-Some-block_start-3.ensures

pub returns-in-Some-br-clause-passes : goal.returns-in-Some-br-clause-passes
returns-in-Some-br-clause-passes c = looked c.args.checker.now c.step-in-Some-br.new.self c.args.bytes.now c.in-Some-br.after [] 12 c.in-Some-br.token c.step-in-Some-br.result c.as_first_token-in-Some-br.result c.in-len1-up.len_at_least c.in-12.is c.in-Some-br.ensures c.step-in-Some-br.ensures.step c.step-in-Some-br.ensures.same c.as_first_token-in-Some-br.ensures

pub returns-then-try_fast_step-clause-passes : goal.returns-then-try_fast_step-clause-passes
returns-then-try_fast_step-clause-passes c = looked_known c.args.checker.now c.try_fast_step.new.self c.args.bytes.now c.in-Some-variable_at.after.now 32 c.in-Some-variable_at.token c.in-len1-up.len_at_least c.in-32.is c.in-Some-variable_at.ensures (c.try_fast_step.ensures.step c.if-try_fast_step.true) (c.try_fast_step.ensures.same c.if-try_fast_step.true)

pub returns-then-try_fast_step-2-clause-passes : goal.returns-then-try_fast_step-2-clause-passes
returns-then-try_fast_step-2-clause-passes c = looked_known c.args.checker.now c.try_fast_step-in-Some-variable_at-2.new.self c.args.bytes.now c.in-Some-variable_at-2.after.now 33 c.in-Some-variable_at-2.token c.in-len1-up.len_at_least c.in-33.is c.in-Some-variable_at-2.ensures (c.try_fast_step-in-Some-variable_at-2.ensures.step c.if-try_fast_step-2.true) (c.try_fast_step-in-Some-variable_at-2.ensures.same c.if-try_fast_step-2.true)

pub returns-then-try_fast_step-3-clause-passes : goal.returns-then-try_fast_step-3-clause-passes
returns-then-try_fast_step-3-clause-passes c = looked_known c.args.checker.now c.try_fast_step-in-Some-variable_at-3.new.self c.args.bytes.now c.in-Some-variable_at-3.after.now 34 c.in-Some-variable_at-3.token c.in-len1-up.len_at_least c.in-34.is c.in-Some-variable_at-3.ensures (c.try_fast_step-in-Some-variable_at-3.ensures.step c.if-try_fast_step-3.true) (c.try_fast_step-in-Some-variable_at-3.ensures.same c.if-try_fast_step-3.true)

pub returns-then-try_fast_step-4-clause-passes : goal.returns-then-try_fast_step-4-clause-passes
returns-then-try_fast_step-4-clause-passes c = looked_known c.args.checker.now c.try_fast_step-in-Some-i32_const.new.self c.args.bytes.now c.in-Some-i32_const.after.now 65 c.in-Some-i32_const.token c.in-len1-up.len_at_least c.in-65.is c.in-Some-i32_const.ensures (c.try_fast_step-in-Some-i32_const.ensures.step c.if-try_fast_step-4.true) (c.try_fast_step-in-Some-i32_const.ensures.same c.if-try_fast_step-4.true)

pub returns-then-try_fast_step-5-clause-passes : goal.returns-then-try_fast_step-5-clause-passes
returns-then-try_fast_step-5-clause-passes c = looked_known c.args.checker.now c.try_fast_step-in-Some-i64_const.new.self c.args.bytes.now c.in-Some-i64_const.after.now 66 c.in-Some-i64_const.token c.in-len1-up.len_at_least c.in-66.is c.in-Some-i64_const.ensures (c.try_fast_step-in-Some-i64_const.ensures.step c.if-try_fast_step-5.true) (c.try_fast_step-in-Some-i64_const.ensures.same c.if-try_fast_step-5.true)
