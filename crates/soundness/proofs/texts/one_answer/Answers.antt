use Rattle.soundness.proofs.Joined.Readings.{one_answer}
use Rattle.soundness.proofs.texts.one_answer.Goals as goal

pub returns : goal.returns
returns c = one_answer
