use Rattle.accepted_module.proofs.Numbers.{no_word}
use Rattle.accepted_module.proofs.constant.constant.Goals as goal

pub returns-in-GlobalGet : goal.returns-in-GlobalGet
returns-in-GlobalGet c = no_word c.args.initial.now c.in-GlobalGet.is
