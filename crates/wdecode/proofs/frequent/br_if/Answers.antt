use Rattle.std.proofs.Common.{refl, sym}
use Rattle.wsyntax.specs.Instructions as op
use Rattle.wsyntax.specs.Table.{opcode_of}
use Rattle.wsyntax.specs.declared.instructions.Token.TheVariants as held
use Rattle.wsyntax.specs.declared.opcode.Opcode.TheVariants as code
use Rattle.wdecode.proofs.OneRead.{reads}
use Rattle.wdecode.proofs.frequent.br_if.Goals as goal

pub returns : goal.returns
unfolding opcode_of
returns c = reads 0x0D code.BrIf (op.BrIf c.in_ok-label.label) c.args.bytes.now c.in_ok-label.rest.now (held.BrIf c.unresolved.result) refl (rw (sym c.in_ok-label.ensures) refl) (λ _. refl) (λ _. rw c.unresolved.ensures refl)
