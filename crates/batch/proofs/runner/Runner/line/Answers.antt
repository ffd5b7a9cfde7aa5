use Rattle.std.proofs.Common.{rules}
use Rattle.wsyntax.specs.Modules.{module_shape}
use Rattle.accepted_module.specs.Judgement.{shapes_of}
use Rattle.wstore.specs.CallLimits.{limits_of}
use Rattle.batch.specs.Ends.{EndsAlone}
use Rattle.batch.proofs.Batches.{given_line}
use Rattle.batch.proofs.runner.Runner.line.Goals as goal

pub returns-in-Err : goal.returns-in-Err
returns-in-Err c =
    let runner = c.args.self.now in
    given_line runner.accepted.now runner.settings c.args.function c.args.call.now c.as_slice-args.result.now _ c.accepted_is_judged.ensures c.requires c.as_slice-args.ensures
    (c.refused_line.ensures _ _ (limits_of runner.settings) _ _ c.in-Err.ensures.refused)

pub returns : goal.returns
returns c =
    let runner = c.args.self.now in
    let ends : EndsAlone (module_shape runner.accepted.now.«module») (shapes_of runner.accepted.now.bodies.items) (limits_of runner.settings) c.args.function c.as_slice-args.result.now c.match-ended.line = search rules in
    given_line runner.accepted.now runner.settings c.args.function c.args.call.now c.as_slice-args.result.now c.match-ended.line c.accepted_is_judged.ensures c.requires c.as_slice-args.ensures ends
