use Rattle.std.specs.Prelude.{[]}
use Rattle.program.proofs.Explained.{explains}
use Rattle.program.proofs.explaining.explain_file.Goals as goal

pub returns-clause-explained : goal.returns-clause-explained
returns-clause-explained g c =
    explains c.args.json (g.S.Source.holds c.args.source.now c.args.path.now) c.in_ok-bytes.bytes.items c.as_slice.result.now (g.O.Write.contents c.args.out.now) (g.O.Write.contents c.show_explained.new.out)
    c.show_explained.result c.in_ok-bytes.ensures.known c.as_slice.ensures.value c.show_explained.ensures
