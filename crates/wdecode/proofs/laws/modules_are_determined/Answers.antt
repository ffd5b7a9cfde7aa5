use Rattle.wdecode.proofs.Determined.{one_module}
use Rattle.wdecode.proofs.laws.modules_are_determined.Goals as goal

pub returns : goal.returns
returns c = one_module
