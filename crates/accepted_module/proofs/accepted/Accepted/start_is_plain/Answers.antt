use Rattle.wsyntax.specs.Modules.{module_shape}
use Rattle.accepted_module.proofs.PlainStarts.{starts_plainly}
use Rattle.accepted_module.proofs.accepted.Accepted.start_is_plain.Goals as goal

pub returns : goal.returns
returns c = starts_plainly (module_shape c.args.self.now.«module») c.args.self.now.context c.args.self.now.bodies.items c.args.self.now.judged c.start_is_plain.ensures
