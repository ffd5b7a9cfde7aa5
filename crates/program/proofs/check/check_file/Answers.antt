use Rattle.program.proofs.Finished.{checked}
use Rattle.program.proofs.check.check_file.Goals as goal

pub returns-clause-check : goal.returns-clause-check
returns-clause-check g c =
    checked (g.S.Source.holds c.args.source.now c.args.path.now) c.in_ok-bytes.bytes.items c.as_slice.result.now
    (g.O.Write.contents c.args.out.now) (g.O.Write.contents c.report_verdict-answered.new.out) (g.O.Write.contents c.finish.new.out) c.report_verdict-answered.result c.finish.result
    c.in_ok-bytes.ensures.known c.as_slice.ensures.value c.report_verdict-answered.ensures.report c.finish.ensures.ends c.finish.ensures.kept
