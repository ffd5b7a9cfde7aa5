use Rattle.std.proofs.Common.{rules, refl, sym}
use Rattle.std.specs.Prelude.{FitsSigned}
use Rattle.std.specs.Int.{w64}
use Rattle.std.proofs.lemmas.Int.{to_z-of_z}
use Rattle.wnum.specs.Arithmetic.{unsigned}
use Rattle.wsyntax.specs.Instructions as op
use Rattle.wsyntax.specs.Table.{opcode_of}
use Rattle.wsyntax.specs.declared.ValType.TheVariants.{I64}
use Rattle.wsyntax.specs.declared.instructions.Token.TheVariants as held
use Rattle.wsyntax.specs.declared.opcode.Opcode.TheVariants as code
use Rattle.wdecode.proofs.OneRead.{reads}
use Rattle.wdecode.proofs.frequent.i64_const.Goals as goal

pub returns : goal.returns
unfolding opcode_of
returns c =
    let fits : FitsSigned w64 c.in_ok-value.value = search rules in
    rw (to_z-of_z w64 c.in_ok-value.value fits) (reads 0x42 code.I64Const (op.Const I64 (unsigned 64 c.in_ok-value.value)) c.args.bytes.now c.in_ok-value.rest.now (held.I64Const c.in_ok-value.value) refl (rw (sym c.in_ok-value.ensures) refl) (λ _. refl) (λ _. refl))
