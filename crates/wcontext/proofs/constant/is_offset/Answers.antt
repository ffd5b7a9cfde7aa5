use Rattle.std.proofs.Common.{rules}
use Rattle.wsyntax.specs.Validation.Rules.{one_const}
use Rattle.wsyntax.specs.declared.ValType.TheVariants.{I32}
use Rattle.wcontext.proofs.Constants.{leaves_constant}
use Rattle.wcontext.proofs.constant.is_offset.Goals as goal

pub returns-in-I32Const : goal.returns-in-I32Const
returns-in-I32Const c = rw c.in-I32Const.is (λ _. one_const _, λ _. search rules)

pub returns-in_default : goal.returns-in_default
returns-in_default c = leaves_constant c.args.globals.now I32 c.args.offset.now c.constant_instruction.result c.leaves.result c.constant_instruction.ensures c.leaves.ensures
