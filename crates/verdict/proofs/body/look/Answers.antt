use Rattle.std.proofs.Common.{arith}
use Rattle.wsyntax.specs.Modules.{decoded_as}
use Rattle.verdict.proofs.WholeBodies.{goes_taken, goes_there, goes_further}
use Rattle.verdict.proofs.body.look.Goals as goal

pub returns-then-branch-clause-goes_on : goal.returns-then-branch-clause-goes_on
returns-then-branch-clause-goes_on c =
    let looked = c.in_ok-step-in-Nothing in
    rw c.in-Nothing.is (goes_taken c.args.checker.now c.step.new.self c.args.at c.args.left (decoded_as c.args.targets.now c.args.token) looked.field-0 looked.ensures.step c.if-branch.true looked.ensures.same)

pub returns-in-Stop-clause-goes_on : goal.returns-in-Stop-clause-goes_on
returns-in-Stop-clause-goes_on c = rw c.in-Stop.is (goes_there c.args.checker.now c.args.checker.now c.args.at c.args.left c.in-Stop.stop (decoded_as c.args.targets.now c.args.token) c.if-left-stop.true)

pub returns-in-Stop-2-clause-goes_on : goal.returns-in-Stop-2-clause-goes_on
returns-in-Stop-2-clause-goes_on c =
    rw c.in-Stop.is (goes_further c.args.checker.now c.args.checker.now c.args.at c.args.left c.in-Stop.stop (decoded_as c.args.targets.now c.args.token) (λ e. absurd (omega (arith, e, c.if-left-stop.false))))
