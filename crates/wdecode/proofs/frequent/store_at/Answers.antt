use Rattle.std.proofs.Common.{refl, sym}
use Rattle.wsyntax.specs.Instructions as op
use Rattle.wsyntax.specs.Table.{store_access}
use Rattle.wsyntax.specs.declared.instructions.Token.TheVariants as held
use Rattle.wsyntax.specs.declared.opcode.Opcode.TheVariants as code
use Rattle.wdecode.proofs.OneRead.{reads}
use Rattle.wdecode.proofs.frequent.store_at.Goals as goal

pub returns : goal.returns
returns c = reads c.args.byte (code.Store c.in_ok-store.store) (op.MemoryStore (store_access c.in_ok-store.store c.in_ok-align.align c.in_ok-offset.offset)) c.args.bytes.now c.in_ok-offset.rest.now (held.Store c.in_ok-store.store c.in_ok-align.align c.in_ok-offset.offset) c.in_ok-store.ensures (rw (sym c.in_ok-align.ensures, sym c.in_ok-offset.ensures) refl) (λ _. refl) (λ _. refl)
