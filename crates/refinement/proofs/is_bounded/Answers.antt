use Rattle.refinement.proofs.Kept.Reaching.{is_bounded}
use Rattle.refinement.proofs.is_bounded.Goals as goal

pub returns : goal.returns
returns c = is_bounded
