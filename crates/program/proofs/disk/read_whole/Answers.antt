use Rattle.std.proofs.Common.{take, ◌∙◌, ap}
use Rattle.std.proofs.lemmas.List.{take_at}
use Rattle.program.proofs.InTwo.{whole}
use Rattle.program.proofs.disk.read_whole.Goals as goal

-- what was read and what was read on are the beginning of all
pub returns-clause-known : goal.returns-clause-known
returns-clause-known g c =
    whole (g.F.Read.remaining c.args.file.now) (g.F.Read.remaining c.read_once.new.file) c.args.most _ _ _ _
    c.in_ok-count.ensures.given
    (c.truncate.ensures.items ∙ ap (take c.in_ok-count.count) (take_at c.read_once.new.buffer _ _ (c.read_once.ensures.same ∙ c.as_mut_slice.ensures.len)))
    c.in_ok-read_on.ensures.known c.truncate-2.ensures.items
