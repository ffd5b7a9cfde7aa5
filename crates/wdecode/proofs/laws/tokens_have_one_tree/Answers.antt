use Rattle.wdecode.proofs.ClosedTrees.{closed_tree}
use Rattle.wdecode.proofs.OneTreeLaws.{one_code}
use Rattle.wdecode.proofs.laws.tokens_have_one_tree.Goals as goal

pub returns : goal.returns
returns c = record { some = closed_tree; one = one_code }
