use Rattle.std.proofs.Common.{[]}
use Rattle.verdict.proofs.OnePass.{looked_any}
use Rattle.verdict.proofs.passing.any_passes.Goals as goal

pub returns-in-Ok-clause-passes : goal.returns-in-Ok-clause-passes
returns-in-Ok-clause-passes c = looked_any c.args.checker.now c.step.new.self c.args.bytes.now c.in-Ok.after c.deref.result.now c.token_at.new.targets.items c.in-Ok.token c.step.result c.as_first_token.result (c.in-Ok.ensures.ok.2 []) c.deref.ensures.value c.in-Ok.ensures.shorter c.step.ensures.step c.step.ensures.same c.as_first_token.ensures
