use Rattle.pieces.proofs.OneThread.{tried}
use Rattle.pieces.proofs.trying.try_all.Goals as goal

pub returns : goal.returns
returns g c = tried _ _ _ _ c.in-Ok.answers.items c.results.result c.in-Ok.ensures c.results.ensures
