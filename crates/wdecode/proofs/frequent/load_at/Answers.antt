use Rattle.std.proofs.Common.{refl, sym}
use Rattle.wsyntax.specs.Instructions as op
use Rattle.wsyntax.specs.Table.{load_access}
use Rattle.wsyntax.specs.declared.instructions.Token.TheVariants as held
use Rattle.wsyntax.specs.declared.opcode.Opcode.TheVariants as code
use Rattle.wdecode.proofs.OneRead.{reads}
use Rattle.wdecode.proofs.frequent.load_at.Goals as goal

pub returns : goal.returns
returns c = reads c.args.byte (code.Load c.in_ok-load.load) (op.MemoryLoad (load_access c.in_ok-load.load c.in_ok-align.align c.in_ok-offset.offset)) c.args.bytes.now c.in_ok-offset.rest.now (held.Load c.in_ok-load.load c.in_ok-align.align c.in_ok-offset.offset) c.in_ok-load.ensures (rw (sym c.in_ok-align.ensures, sym c.in_ok-offset.ensures) refl) (λ _. refl) (λ _. refl)
