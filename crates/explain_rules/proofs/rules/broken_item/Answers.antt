use Rattle.explain_rules.proofs.RuleFaults.{breaks_each}
use Rattle.explain_rules.proofs.rules.broken_item.Goals as goal

pub returns-in-Ok : goal.returns-in-Ok
returns-in-Ok c = breaks_each c.args.bytes.now c.in-Ok.module c.args.rule c.placed_item.result c.in-Ok.ensures.only c.placed_item.ensures
