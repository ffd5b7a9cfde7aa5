use Rattle.soundness.proofs.Chapter3.Back.{rule_back}
use Rattle.soundness.proofs.validation.rule_back.Goals as goal

pub returns : goal.returns
returns c = rule_back
