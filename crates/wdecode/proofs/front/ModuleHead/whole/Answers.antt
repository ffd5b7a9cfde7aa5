use Rattle.std.proofs.Common.{Err, ap}
use Rattle.std.proofs.lemmas.Result.{err_from_is_err_and}
use Rattle.wsyntax.specs.Modules.{module_shape}
use Rattle.wdecode.specs.declared.fault.Fault.{Fault}
use Rattle.wdecode.specs.declared.fault.Fault.TheVariants.{Malformed}
use Rattle.wdecode.specs.Fronts.{with_segments}
use Rattle.wdecode.proofs.FrontLaws.{fault_is, whole_made, ends_here, none_left}
use Rattle.wdecode.proofs.front.ModuleHead.whole.Goals as goal

pub returns-in_err-end-clause-malformed : goal.returns-in_err-end-clause-malformed
returns-in_err-end-clause-malformed c = λ h segments ends.
    let p = err_from_is_err_and c.from_residual.result c.from_residual.ensures.1 in
    let is = fault_is c.from_residual.result p.0 c.in_err-end.field-0.0 Malformed p.1 p.2 h in
    c.in_err-end.ensures.malformed (ap (λ (f : Fault). Err f) is) (with_segments (module_shape c.args.self.module) segments) ends

pub returns-clause-found : goal.returns-clause-found
returns-clause-found c =
    let self = c.args.self in
    let end = c.in_ok-end.end in
    let whole = module_shape end.module in
    whole_made self.last (module_shape self.module) whole self.rest.now self.next ((c.in_ok-end.ensures.same whole).1 (ends_here end.last whole end.rest.now (none_left end.rest.now c.in_ok-end.ensures.over)))
