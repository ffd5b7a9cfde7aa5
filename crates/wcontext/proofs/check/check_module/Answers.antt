use Rattle.std.proofs.Common.{◌≡◌, subst}
use Rattle.std.proofs.lemmas.Result.{err_from_is_err_and}
use Rattle.wsyntax.specs.Modules.{ModuleShape, data_shape, module_shape}
use Rattle.wsyntax.specs.Validation.Rules.{DataValid, LeastBroken}
use Rattle.wcontext.proofs.Firsts.{first_breaks}
use Rattle.wcontext.proofs.Kept.{none_broken}
use Rattle.wcontext.proofs.check.check_module.Goals as goal

pub returns-in_err-context-clause-broken : goal.returns-in_err-context-clause-broken
returns-in_err-context-clause-broken c =
    let p = err_from_is_err_and c.from_residual.result c.from_residual.ensures.1 in rw (p.1, p.2) (λ k is. (c.in_err-context.ensures.broken k is).1)

pub returns-in_err-check_rules_after_code-clause-broken : goal.returns-in_err-check_rules_after_code-clause-broken
returns-in_err-check_rules_after_code-clause-broken c =
    let p = err_from_is_err_and c.from_residual-in_err-check_rules_after_code.result c.from_residual-in_err-check_rules_after_code.ensures.1 in rw (p.1, p.2) (λ k is. (c.in_err-check_rules_after_code.ensures.broken k is).1)

pub returns-in-None-clause-valid : goal.returns-in-None-clause-valid
returns-in-None-clause-valid c = none_broken (module_shape c.args.module.now) c.in_ok-check_rules_after_code.ensures.valid c.in-None.ensures

pub returns-in-Some-clause-broken : goal.returns-in-Some-clause-broken
returns-in-Some-clause-broken c = λ k is.
    let m : ModuleShape = module_shape c.args.module.now in
    let last : 13 ≡ k = cc in
    subst (LeastBroken m) last (record {
      broken = first_breaks (DataValid m) m.segments c.in-Some.field-0.0 (data_shape c.in-Some.field-0.1) c.in-Some.ensures;
      before = c.in_ok-check_rules_after_code.ensures.valid;
    })
