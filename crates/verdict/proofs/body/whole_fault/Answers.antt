use Rattle.std.proofs.Common.{ltb, refl, ap, sym, subst, ◌∙◌, Option}
use Rattle.std.proofs.lemmas.Result.{err_from_is_err_and}
use Rattle.wsyntax.specs.Binary.Sections.{locals_of}
use Rattle.wsyntax.specs.Binary.Shell.{local_limit}
use Rattle.refusal.specs.declared.refusal.BodyRefusal.{BodyRefusal}
use Rattle.verdict.specs.WholeBodies.{GivesRefusal}
use Rattle.verdict.proofs.WholeBodies.{refusal_none, refusal_many, refusal_few}
use Rattle.verdict.proofs.body.whole_fault.Goals as goal

pub returns-in_err-runs-clause-verdict : goal.returns-in_err-runs-clause-verdict
returns-in_err-runs-clause-verdict c =
    let p = err_from_is_err_and c.from_residual.result c.from_residual.ensures.1 in
    rw (p.1, p.2) (refusal_none c.args.checker.now.outside c.args.func c.args.bytes.now c.in_err-runs.field-0.0 c.in_err-runs.ensures)

pub returns-then-has_too_many_locals-clause-verdict : goal.returns-then-has_too_many_locals-clause-verdict
returns-then-has_too_many_locals-clause-verdict c =
    let x = c.args.checker.now in
    let many = ap (λ r. ltb local_limit (locals_of r)) (sym c.deref.ensures.value) ∙ sym c.has_too_many_locals.ensures ∙ c.if-has_too_many_locals.true in
    subst (λ (v : Option BodyRefusal). GivesRefusal c.tokens_fault.result v)
    (sym (refusal_many x.outside c.args.func c.args.bytes.now c.in_ok-runs.rest.now c.in_ok-runs.runs.items x.inside x.frames c.in_ok-runs.ensures many))
    (c.tokens_fault.ensures.verdict x.inside x.frames tt)

pub returns-clause-verdict : goal.returns-clause-verdict
returns-clause-verdict c =
    let x = c.begin.new.self in
    let few = ap (λ r. ltb local_limit (locals_of r)) (sym c.deref.ensures.value) ∙ sym c.has_too_many_locals.ensures ∙ c.if-has_too_many_locals.false in
    subst (λ (v : Option BodyRefusal). GivesRefusal c.tokens_fault-2.result v)
    (sym (refusal_few c.args.checker.now.outside c.args.func c.args.bytes.now c.in_ok-runs.rest.now c.in_ok-runs.runs.items c.deref-2.result.now x c.in_ok-runs.ensures few c.deref-2.ensures.value c.in_ok-begin.ensures.begun))
    (c.tokens_fault-2.ensures.verdict x.inside x.frames (refl, refl))
