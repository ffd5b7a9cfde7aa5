use Rattle.accepted_module.proofs.Numbers.{other_offset}
use Rattle.accepted_module.proofs.offsets.offset_of.Goals as goal

pub returns-in_default : goal.returns-in_default
returns-in_default c = other_offset c.args.offset.now c.requires c.in_default.not-I32Const
