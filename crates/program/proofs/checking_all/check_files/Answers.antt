use Rattle.std.proofs.Common.{map}
use Rattle.program.proofs.Rounds.{files_end}
use Rattle.program.proofs.checking_all.check_files.Goals as goal

pub returns-in-Ok : goal.returns-in-Ok
returns-in-Ok g c =
    files_end (g.S.Source.holds c.args.source.now) (map (λ n. n.now) c.args.files.now) (g.S.Source.asked c.args.source.now) (g.S.Source.asked c.check_rounds.new.source) (g.O.Write.contents c.args.out.now) (g.O.Write.contents c.check_rounds.new.out) (g.O.Write.contents c.end_all.new.out)
    c.in-Ok.file_outcome c.end_all.result c.in-Ok.ensures.printed c.end_all.ensures.kept c.end_all.ensures.ends
