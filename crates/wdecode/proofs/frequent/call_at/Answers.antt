use Rattle.std.proofs.Common.{refl, sym}
use Rattle.wsyntax.specs.Instructions as op
use Rattle.wsyntax.specs.Table.{opcode_of}
use Rattle.wsyntax.specs.declared.instructions.Token.TheVariants as held
use Rattle.wsyntax.specs.declared.opcode.Opcode.TheVariants as code
use Rattle.wdecode.proofs.OneRead.{reads}
use Rattle.wdecode.proofs.frequent.call_at.Goals as goal

pub returns : goal.returns
unfolding opcode_of
returns c = reads 0x10 code.Call (op.Call c.in_ok-index.index) c.args.bytes.now c.in_ok-index.rest.now (held.Call c.in_ok-index.index) refl (rw (sym c.in_ok-index.ensures) refl) (λ _. refl) (λ _. refl)
