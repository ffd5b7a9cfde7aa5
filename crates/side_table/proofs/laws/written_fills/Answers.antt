use Rattle.side_table.proofs.Written.{written_fills}
use Rattle.side_table.proofs.laws.written_fills.Goals as goal

pub returns : goal.returns
returns c = written_fills
