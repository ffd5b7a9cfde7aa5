use Rattle.soundness.proofs.Chapter3.Unique.{unique_tree}
use Rattle.soundness.proofs.validation.unique_tree.Goals as goal

pub returns : goal.returns
returns c = unique_tree
