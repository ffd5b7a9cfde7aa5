use Rattle.side_table.proofs.Written.{entries_suit}
use Rattle.side_table.proofs.laws.entries_suit.Goals as goal

pub returns : goal.returns
returns c = entries_suit
