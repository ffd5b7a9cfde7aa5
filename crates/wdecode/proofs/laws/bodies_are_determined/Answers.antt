use Rattle.wdecode.proofs.Determined.{one_body}
use Rattle.wdecode.proofs.laws.bodies_are_determined.Goals as goal

pub returns : goal.returns
returns c = one_body
