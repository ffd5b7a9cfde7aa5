use Rattle.explain.proofs.Fronts.{so_of_each}
use Rattle.explain.proofs.explaining.refused_body.Goals as goal

pub returns-in-Ok-clause-so : goal.returns-in-Ok-clause-so
returns-in-Ok-clause-so c = so_of_each c.args.bytes.now c.in-Ok.front c.body_of.result c.in-Ok.ensures.whole c.body_of.ensures.so
