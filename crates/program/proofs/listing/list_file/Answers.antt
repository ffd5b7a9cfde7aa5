use Rattle.program.proofs.Listed.{listed_good, listed_refused}
use Rattle.program.proofs.listing.list_file.Goals as goal

pub returns-in-Ok-clause-listed : goal.returns-in-Ok-clause-listed
returns-in-Ok-clause-listed g c =
    listed_good (g.S.Source.holds c.args.source.now c.args.path.now) c.in_ok-bytes.bytes.items c.as_slice.result.now c.in-Ok.accepted c.text_of_exports-text.result
    (g.O.Write.contents c.args.out.now) (g.O.Write.contents c.show_text.new.out) c.show_text.result
    c.in_ok-bytes.ensures.known c.as_slice.ensures.value c.in-Ok.ensures.verdict c.in-Ok.ensures.parts c.text_of_exports-text.ensures c.show_text.ensures

pub returns-clause-listed : goal.returns-clause-listed
returns-clause-listed g c =
    listed_refused (g.S.Source.holds c.args.source.now c.args.path.now) c.in_ok-bytes.bytes.items c.as_slice.result.now c.in-Err.refusal c.verdict_line-line.result
    (g.O.Write.contents c.args.out.now) (g.O.Write.contents c.show_text-in-Err.new.out) c.show_text-in-Err.result
    c.in_ok-bytes.ensures.known c.as_slice.ensures.value c.in-Err.ensures.verdict c.verdict_line-line.ensures c.show_text-in-Err.ensures
