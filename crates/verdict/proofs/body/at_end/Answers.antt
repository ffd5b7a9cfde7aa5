use Rattle.verdict.proofs.WholeBodies.{ends_stopped}
use Rattle.verdict.proofs.body.at_end.Goals as goal

pub returns-in_default-2 : goal.returns-in_default-2
returns-in_default-2 c = rw c.in_default.is (ends_stopped c.args.checker.now c.args.count c.in_default.field-0)
