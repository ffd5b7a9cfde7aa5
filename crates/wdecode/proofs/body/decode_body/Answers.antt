use Rattle.std.proofs.Common.{◌≡◌, Some, None, true, false, nat_lt, sym, subst, ◌∙◌}
use Rattle.std.proofs.lemmas.Bool.{ltb-true, ltb-false}
use Rattle.wsyntax.specs.Modules.{body_shape}
use Rattle.wsyntax.specs.Binary.Production.{whole_at}
use Rattle.wsyntax.specs.Binary.Sections.{body, locals_of}
use Rattle.wsyntax.specs.Binary.Shell.{local_limit}
use Rattle.wdecode.specs.declared.fault.Fault.{Fault}
use Rattle.wdecode.specs.Gives.{Fails}
use Rattle.wdecode.proofs.Agree.{whole_sound, whole_complete}
use Rattle.wdecode.proofs.SectionLaws.{body_agrees}
use Rattle.wdecode.proofs.Determined.{one_body}
use Rattle.wdecode.proofs.body.decode_body.Goals as goal

pub returns-in-Err-Malformed-clause-malformed : goal.returns-in-Err-Malformed-clause-malformed
returns-in-Err-Malformed-clause-malformed c = λ _ b s.
    let none : whole_at body.read c.args.bytes.now ≡ None = subst (λ (f : Fault). Fails f (whole_at body.read c.args.bytes.now)) c.in-Err-Malformed.field-0-is c.in-Err-Malformed.ensures.value in
    let clash : None ≡ Some b = sym none ∙ whole_complete body body_agrees c.args.bytes.now b s in
    cc

pub returns-else-has_too_many_locals-clause-found : goal.returns-else-has_too_many_locals-clause-found
returns-else-has_too_many_locals-clause-found c =
    let few : nat_lt local_limit (locals_of c.in-Ok.body.runs.items) ≡ false = cc (c.has_too_many_locals.ensures, c.deref.ensures.value, c.if-has_too_many_locals.false) in
    (whole_sound body body_agrees c.args.bytes.now (body_shape c.in-Ok.body) c.in-Ok.ensures.value, ltb-false _ _ few)

pub returns-else-has_too_many_locals-clause-only : goal.returns-else-has_too_many_locals-clause-only
returns-else-has_too_many_locals-clause-only c other s =
    one_body c.args.bytes.now (body_shape c.in-Ok.body) other (whole_sound body body_agrees c.args.bytes.now (body_shape c.in-Ok.body) c.in-Ok.ensures.value) s

pub returns-then-has_too_many_locals-clause-too_many : goal.returns-then-has_too_many_locals-clause-too_many
returns-then-has_too_many_locals-clause-too_many c =
    let many : nat_lt local_limit (locals_of c.in-Ok.body.runs.items) ≡ true = cc (c.has_too_many_locals.ensures, c.deref.ensures.value, c.if-has_too_many_locals.true) in
    λ _. (body_shape c.in-Ok.body, whole_sound body body_agrees c.args.bytes.now (body_shape c.in-Ok.body) c.in-Ok.ensures.value, ltb-true _ _ many)
