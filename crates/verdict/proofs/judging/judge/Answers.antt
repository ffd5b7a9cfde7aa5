use Rattle.std.proofs.Common.{Ok, Err}
use Rattle.verdict.proofs.Firsts.{refused_so}
use Rattle.verdict.proofs.Rules.{each_typed, few_functions, short_bodies, verdict_so, judged_so, small_so, accepted_so}
use Rattle.verdict.proofs.judging.judge.Goals as goal

pub returns-in_err-module-clause-verdict : goal.returns-in_err-module-clause-verdict
returns-in_err-module-clause-verdict g c = refused_so _ _ _ c.in_err-module.field-0.0 (let h = c.from_residual.ensures.1 in h) c.in_err-module.ensures

pub judge_bodies-requires-clause-each_has_type : goal.judge_bodies-requires-clause-each_has_type
judge_bodies-requires-clause-each_has_type g c κs within = let m = c.in_ok-module in each_typed c.args.bytes.now m.module m.context c.deref.result.now m.ensures c.deref.ensures.value

pub judge_bodies-requires-clause-short : goal.judge_bodies-requires-clause-short
judge_bodies-requires-clause-short g c κs within = let m = c.in_ok-module in short_bodies c.args.bytes.now m.module m.context c.deref.result.now m.ensures c.deref.ensures.value

pub judge_bodies-requires-clause-few : goal.judge_bodies-requires-clause-few
judge_bodies-requires-clause-few g c κs within = let m = c.in_ok-module in few_functions c.args.bytes.now m.module m.context c.deref.result.now m.ensures c.deref.ensures.value

pub returns-in_err-bodies-clause-verdict : goal.returns-in_err-bodies-clause-verdict
returns-in_err-bodies-clause-verdict g c =
    let m = c.in_ok-module in
    refused_so _ _ _ c.in_err-bodies.field-0.0 (let h = c.from_residual-in_err-bodies.ensures.1 in h)
    (verdict_so {T = Unit {0}} c.args.bytes.now m.module m.context c.deref.result.now (Err c.in_err-bodies.field-0.0) m.ensures c.deref.ensures.value c.in_err-bodies.ensures.verdict)

pub of-requires-clause-judged : goal.of-requires-clause-judged
of-requires-clause-judged g c = let m = c.in_ok-module in judged_so c.args.bytes.now m.module m.context c.deref.result.now _ m.ensures c.deref.ensures.value c.in_ok-bodies.ensures.bodies

pub of-requires-clause-filled : goal.of-requires-clause-filled
of-requires-clause-filled g c = c.in_ok-module.ensures.filled

pub of-requires-clause-small : goal.of-requires-clause-small
of-requires-clause-small g c = let m = c.in_ok-module in small_so c.args.bytes.now m.module m.context c.deref.result.now _ m.ensures c.deref.ensures.value c.in_ok-bodies.ensures.bodies

pub returns-clause-verdict : goal.returns-clause-verdict
returns-clause-verdict g c =
    let m = c.in_ok-module in
    verdict_so c.args.bytes.now m.module m.context c.deref.result.now (Ok c.in_ok-bodies.bodies) m.ensures c.deref.ensures.value c.in_ok-bodies.ensures.verdict

pub returns-clause-parts : goal.returns-clause-parts
returns-clause-parts g c =
    let m = c.in_ok-module in
    accepted_so c.args.bytes.now m.module m.context c.deref.result.now c.in_ok-bodies.bodies c.in_ok-of.field-0 m.ensures c.deref.ensures.value c.in_ok-bodies.ensures.bodies c.in_ok-of.ensures
