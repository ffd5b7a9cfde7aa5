use Rattle.soundness.proofs.Chapter3.Back.{same_rules}
use Rattle.soundness.proofs.validation.same_rules.Goals as goal

pub returns : goal.returns
returns c = same_rules
