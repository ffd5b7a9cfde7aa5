use Rattle.std.proofs.Common.{[]}
use Rattle.wsyntax.specs.Modules.{decoded_as}
use Rattle.wcheck.proofs.KnownSteps.{known_step}
use Rattle.wcheck.proofs.control.try_fast_step_control.Goals as goal

pub returns-in-Some-clause-frames : goal.returns-in-Some-clause-frames
returns-in-Some-clause-frames c = λ known.
    let x = c.args.control.now in
    known_step c.args.scope.now (decoded_as [] c.args.token) x.top x.outer.items c.deref.result.now x.operands.types c.apply_known.new.operands.types x.operands.below c.apply_known.new.operands.below x.operands.above c.apply_known.new.operands.above x.is_open c.in-Some.rule c.requires.open c.requires.types c.apply_known.ensures.types c.apply_known.ensures.below c.deref.ensures.value c.in-Some.ensures (c.apply_known.ensures.above known)
