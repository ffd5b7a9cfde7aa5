use Rattle.std.proofs.Common.{◌≡◌, ◌∷◌, Some, rules, subst, sym}
use Rattle.std.specs.Prelude.{FitsSigned}
use Rattle.std.specs.Int.{w32}
use Rattle.std.proofs.lemmas.Int.{to_z-of_z}
use Rattle.wsyntax.specs.declared.module.ConstExpr.TheVariants as initial
use Rattle.wsyntax.specs.Modules.{initial_tokens}
use Rattle.wsyntax.specs.Binary.Nesting.{expression}
use Rattle.wdecode.specs.Gives.{ReadsPlain}
use Rattle.wdecode.proofs.Initials.{number_given}
use Rattle.wdecode.proofs.initial.number_at.Goals as goal

pub returns-in-I32Const : goal.returns-in-I32Const
returns-in-I32Const c =
    let n = c.in-I32Const.number in
    let front = c.in_ok-rest.rest.now in
    let after = c.in_ok-rest-2.rest.now in
    let fits : FitsSigned w32 n = search rules in
    let reads : ReadsPlain (0x41 ∷ front) c.in_ok-token.token c.in_ok-token.rest.now = c.in_ok-token.ensures in
    let given = number_given c.args.bytes.now front c.in_ok-token.rest.now after 0x41 n c.in_ok-rest.ensures (subst (λ t. ReadsPlain (0x41 ∷ front) t c.in_ok-token.rest.now) c.in-I32Const.is reads) c.in_ok-rest-2.ensures in
    subst (λ m. expression.read c.args.bytes.now ≡ Some (initial_tokens (initial.I32Const m), after)) (sym (to_z-of_z w32 n fits)) given
