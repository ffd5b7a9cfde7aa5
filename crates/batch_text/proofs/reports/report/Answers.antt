use Rattle.batch_text.specs.Ends.{ends_of}
use Rattle.batch_text.proofs.Joined.{report_whole}
use Rattle.batch_text.proofs.reports.report.Goals as goal

pub returns : goal.returns
returns c =
    let part = c.in_ok-part.ensures in
    report_whole (ends_of c.args.lines.now) c.in_ok-part.part.total _ _ part.lines part.counts part.calls c.in_ok-push_line.ensures
