use Rattle.refinement.proofs.TreeFound.{tree_is_found}
use Rattle.refinement.proofs.tree_is_found.Goals as goal

pub returns : goal.returns
returns c = tree_is_found
