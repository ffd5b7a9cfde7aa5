use Rattle.std.proofs.Common.{refl, sym, ap}
use Rattle.wsyntax.specs.Instructions as op
use Rattle.wsyntax.specs.Table.{opcode_of}
use Rattle.wsyntax.specs.declared.instructions.Token.TheVariants as held
use Rattle.wsyntax.specs.declared.opcode.Opcode.TheVariants as code
use Rattle.wdecode.proofs.OneRead.{reads}
use Rattle.wdecode.proofs.frequent.variable_at.Goals as goal

pub returns-in-32 : goal.returns-in-32
unfolding opcode_of
returns-in-32 c = reads c.args.byte code.LocalGet (op.LocalGet c.in_ok-index.index) c.args.bytes.now c.in_ok-index.rest.now (held.LocalGet c.in_ok-index.index) (ap opcode_of c.in-32.is) (rw (sym c.in_ok-index.ensures) refl) (λ _. refl) (λ _. refl)

pub returns-in-33 : goal.returns-in-33
unfolding opcode_of
returns-in-33 c = reads c.args.byte code.LocalSet (op.LocalSet c.in_ok-index.index) c.args.bytes.now c.in_ok-index.rest.now (held.LocalSet c.in_ok-index.index) (ap opcode_of c.in-33.is) (rw (sym c.in_ok-index.ensures) refl) (λ _. refl) (λ _. refl)

pub returns-in-34 : goal.returns-in-34
unfolding opcode_of
returns-in-34 c = reads c.args.byte code.LocalTee (op.LocalTee c.in_ok-index.index) c.args.bytes.now c.in_ok-index.rest.now (held.LocalTee c.in_ok-index.index) (ap opcode_of c.in-34.is) (rw (sym c.in_ok-index.ensures) refl) (λ _. refl) (λ _. refl)

pub returns-in-35 : goal.returns-in-35
unfolding opcode_of
returns-in-35 c = reads c.args.byte code.GlobalGet (op.GlobalGet c.in_ok-index.index) c.args.bytes.now c.in_ok-index.rest.now (held.GlobalGet c.in_ok-index.index) (ap opcode_of c.in-35.is) (rw (sym c.in_ok-index.ensures) refl) (λ _. refl) (λ _. refl)

pub returns-in-36 : goal.returns-in-36
unfolding opcode_of
returns-in-36 c = reads c.args.byte code.GlobalSet (op.GlobalSet c.in_ok-index.index) c.args.bytes.now c.in_ok-index.rest.now (held.GlobalSet c.in_ok-index.index) (ap opcode_of c.in-36.is) (rw (sym c.in_ok-index.ensures) refl) (λ _. refl) (λ _. refl)
