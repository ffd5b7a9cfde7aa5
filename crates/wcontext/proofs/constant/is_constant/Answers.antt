use Rattle.wcontext.proofs.Constants.{leaves_constant}
use Rattle.wcontext.proofs.constant.is_constant.Goals as goal

pub returns : goal.returns
returns c = leaves_constant c.args.globals.now c.args.of_type c.args.initial.now c.constant_instruction.result c.leaves.result c.constant_instruction.ensures c.leaves.ensures
