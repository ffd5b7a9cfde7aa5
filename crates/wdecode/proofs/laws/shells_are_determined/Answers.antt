use Rattle.wdecode.proofs.SectionList.{one_shell}
use Rattle.wdecode.proofs.laws.shells_are_determined.Goals as goal

pub returns : goal.returns
returns c = one_shell
