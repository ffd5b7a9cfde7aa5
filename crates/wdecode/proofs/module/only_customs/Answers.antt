use Rattle.std.proofs.Common.{Err, sym, ap, subst}
use Rattle.std.proofs.lemmas.Result.{err_from_is_err_and}
use Rattle.wsyntax.specs.Modules.{ModuleShape, module_shape}
use Rattle.wsyntax.specs.Binary.Shell.{empty_module}
use Rattle.wdecode.specs.declared.fault.Fault.{Fault}
use Rattle.wdecode.specs.declared.fault.Fault.TheVariants.{Malformed}
use Rattle.wdecode.specs.Fronts.{EndsAs}
use Rattle.wdecode.proofs.FrontLaws.{fault_is, customs_after, ends_here, none_left}
use Rattle.wdecode.proofs.module.only_customs.Goals as goal

pub returns-in_err-_end-clause-malformed : goal.returns-in_err-_end-clause-malformed
returns-in_err-_end-clause-malformed c = λ h ends.
    let p = err_from_is_err_and c.from_residual.result c.from_residual.ensures.1 in
    let is = fault_is c.from_residual.result p.0 c.in_err-_end.field-0.0 Malformed p.1 p.2 h in
    c.in_err-_end.ensures.malformed (ap (λ (f : Fault). Err f) is) empty_module (subst (λ (e : ModuleShape). EndsAs 11 e c.args.bytes.now empty_module) (sym c.empty.ensures) ends)

pub returns-clause-found : goal.returns-clause-found
returns-clause-found c =
    let end = c.in_ok-_end._end in
    let whole = module_shape end.module in
    customs_after (module_shape c.empty.result) empty_module c.args.bytes.now whole ((c.in_ok-_end.ensures.same whole).1 (ends_here end.last whole end.rest.now (none_left end.rest.now c.in_ok-_end.ensures.over)))
