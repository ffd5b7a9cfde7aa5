use Rattle.std.proofs.Common.{◌+◌, ◌++◌, string_bytes, decimal, ap, ◌∙◌, arith}
use Rattle.wsyntax.specs.Texts.Report.{call_line, end_text, plus, tally_of}
use Rattle.batch_text.specs.Ends.{end_of}
use Rattle.batch_text.proofs.Joined.{lines_more, total_more, line_written}
use Rattle.batch_text.proofs.JoinedParts.{part_whole}
use Rattle.batch_text.proofs.part.Part.of.Goals as goal

pub loop-position-preserved : goal.loop-position-preserved
loop-position-preserved c =
    let i = c.loop-position.position in
    let n = c.args.first in
    let line = c.index-lines-position.result in
    let below = c.loop-position-test.true in
    let at = c.index-lines-position.is in
    let old = c.loop-position.invariant in
    let written = line_written (string_bytes c.loop-position.text) (decimal (n + i)) (end_text (end_of line)) _ _ _ c.in_ok-write.ensures.bytes c.in_ok-push_end.ensures c.in_ok-push_str.ensures.bytes in
    record {
      text = written ∙ ap (λ l. l ++ call_line (n + i) (end_of line)) old.text ∙ lines_more n c.args.lines.now i line below at;
      counts = c.count.ensures.tally ∙ ap (λ t. plus t (tally_of (end_of line))) old.counts ∙ total_more c.args.lines.now i line below at;
      calls = c.count.ensures.calls ∙ ap (λ k. k + 1) old.calls;
      within = c.count.ensures.within;
    }

pub returns : goal.returns
returns c =
    let old = c.loop-position.invariant in
    part_whole c.args.first c.args.lines.now c.loop-position.position _ (omega arith) old.text old.counts old.calls old.within
