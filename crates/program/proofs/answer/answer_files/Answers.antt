use Rattle.wstore.specs.CallLimits.{limits_of}
use Rattle.program.proofs.Finished.{answered_on}
use Rattle.program.proofs.answer.answer_files.Goals as goal

pub returns-clause-answer : goal.returns-clause-answer
returns-clause-answer g c =
    answered_on (g.S.Source.holds c.args.source.now c.args.path.now) (g.S.Source.holds c.args.source.now c.args.calls.now) (g.S.Source.holds c.read_file.new.source c.args.calls.now) (limits_of c.args.settings)
    c.in_ok-bytes.bytes.items c.deref.result.now c.in_ok-text.text.items c.deref-2.result.now
    (g.O.Write.contents c.args.out.now) (g.O.Write.contents c.answer-answered.new.out) (g.O.Write.contents c.finish.new.out) c.answer-answered.result c.finish.result
    c.in_ok-bytes.ensures.known c.in_ok-text.ensures.known (c.read_file.ensures.same c.args.calls.now) c.deref.ensures.value c.deref-2.ensures.value
    c.answer-answered.ensures.answer c.answer-answered.ensures.status c.finish.ensures.ends c.finish.ensures.kept
