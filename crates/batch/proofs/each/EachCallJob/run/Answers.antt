use Rattle.std.proofs.lemmas.Option.{slice_get-get_or}
use Rattle.batch.proofs.each.EachCallJob.run.Goals as goal

pub returns-in-Err-clause-answer : goal.returns-in-Err-clause-answer
returns-in-Err-clause-answer g c = (tt, (_, slice_get-get_or c.args.self.now.calls.now c.args.index c.index-self-index.result c.requires.index, c.in-Err.ensures.refused))

pub returns-clause-answer : goal.returns-clause-answer
returns-clause-answer g c = (tt, (_, slice_get-get_or c.args.self.now.calls.now c.args.index c.index-self-index.result c.requires.index, c.line-line.ensures))
