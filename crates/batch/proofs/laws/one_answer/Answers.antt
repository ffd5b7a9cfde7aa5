use Rattle.batch.proofs.laws.one_answer.Goals as goal

pub returns : goal.returns
returns c = c.one_answer.ensures c.one_verdict.ensures c.modules_are_determined.ensures
