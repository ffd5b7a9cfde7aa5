use Rattle.soundness.proofs.Chapter3.Inference.{rules_agree}
use Rattle.soundness.proofs.validation.rules_agree.Goals as goal

pub returns : goal.returns
returns c = rules_agree
