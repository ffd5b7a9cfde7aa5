use Rattle.program.proofs.Explained.{are_read, explains_calls, ordered}
use Rattle.program.proofs.Streamed.{both}
use Rattle.program.proofs.explaining.explain_files.Goals as goal

pub returns-clause-explained : goal.returns-clause-explained
returns-clause-explained g c =
    explains_calls c.args.json (g.S.Source.holds c.args.source.now c.args.path.now) (g.S.Source.holds c.args.source.now c.args.calls.now) c.as_slice.result.now c.as_slice-2.result.now
    (g.O.Write.contents c.args.out.now) (g.O.Write.contents c.show_explained.new.out) c.show_explained.result
    (are_read (g.S.Source.holds c.args.source.now c.args.path.now) (g.S.Source.holds c.args.source.now c.args.calls.now) (g.S.Source.holds c.read_file.new.source c.args.calls.now)
    c.in_ok-bytes.bytes.items c.as_slice.result.now c.in_ok-text.text.items c.as_slice-2.result.now c.in_ok-bytes.ensures.known c.in_ok-text.ensures.known (c.read_file.ensures.same c.args.calls.now)
    c.as_slice.ensures.value c.as_slice-2.ensures.value) c.show_explained.ensures

pub returns-clause-order : goal.returns-clause-order
returns-clause-order g c =
    ordered c.args.json c.as_slice.result.now c.as_slice-2.result.now (g.O.Write.contents c.args.out.now) (g.O.Write.contents c.show_explained.new.out) c.show_explained.result
    c.args.path.now c.args.calls.now (g.S.Source.asked c.args.source.now) (g.S.Source.asked c.read_file-2.new.source) c.show_explained.ensures
    (both (g.S.Source.asked c.args.source.now) (g.S.Source.asked c.read_file.new.source) (g.S.Source.asked c.read_file-2.new.source) c.args.path.now c.args.calls.now c.read_file.ensures.logged c.read_file-2.ensures.logged)
