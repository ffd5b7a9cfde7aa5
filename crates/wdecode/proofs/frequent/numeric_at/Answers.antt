use Rattle.std.proofs.Common.{refl, sym}
use Rattle.wsyntax.specs.Instructions as op
use Rattle.wsyntax.specs.Table.{num_op}
use Rattle.wsyntax.specs.declared.instructions.Token.TheVariants as held
use Rattle.wsyntax.specs.declared.opcode.Opcode.TheVariants as code
use Rattle.wdecode.proofs.OneRead.{reads}
use Rattle.wdecode.proofs.frequent.numeric_at.Goals as goal

pub returns-in-Some-Numeric : goal.returns-in-Some-Numeric
returns-in-Some-Numeric c = reads c.args.byte (code.Numeric c.in-Some-Numeric.operator) (op.Numeric (num_op c.in-Some-Numeric.operator)) c.args.bytes.now c.args.bytes.now (held.Numeric c.in-Some-Numeric.operator) (sym (rw c.in-Some-Numeric.field-0-is at c.in-Some-Numeric.ensures)) refl (λ _. refl) (λ _. refl)
