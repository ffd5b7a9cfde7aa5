use Rattle.wnum.proofs.Ranges.{stay_in_range}
use Rattle.wnum.proofs.laws.operators_stay_in_range.Goals as goal

pub returns : goal.returns
returns c = stay_in_range
