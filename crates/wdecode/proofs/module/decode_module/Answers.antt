use Rattle.std.proofs.Common.{Err, ap}
use Rattle.std.proofs.lemmas.Result.{err_from_is_err_and}
use Rattle.wsyntax.specs.Modules.{module_shape}
use Rattle.wdecode.specs.declared.fault.Fault.{Fault}
use Rattle.wdecode.specs.declared.fault.DecodeFault.{DecodeFault}
use Rattle.wdecode.specs.declared.fault.DecodeFault.TheVariants.{Malformed}
use Rattle.wdecode.proofs.SectionList.{one_shell}
use Rattle.wdecode.proofs.FrontLaws.{fault_is}
use Rattle.wdecode.proofs.module.decode_module.Goals as goal

pub returns-in_err-front-clause-malformed : goal.returns-in_err-front-clause-malformed
returns-in_err-front-clause-malformed c = λ h m s.
    let p = err_from_is_err_and c.from_residual.result c.from_residual.ensures.1 in
    let is = fault_is c.from_residual.result p.0 c.in_err-front.field-0.0 Malformed p.1 p.2 h in
    c.in_err-front.ensures.malformed (ap (λ (f : DecodeFault). Err f) is) m s

pub returns-in-Ok-clause-found : goal.returns-in-Ok-clause-found
returns-in-Ok-clause-found c = (c.in_ok-front.ensures.whole (module_shape c.in-Ok.module)).1 c.in-Ok.ensures.found

pub returns-in-Ok-clause-only : goal.returns-in-Ok-clause-only
returns-in-Ok-clause-only c other s = one_shell c.args.bytes.now (module_shape c.in-Ok.module) other ((c.in_ok-front.ensures.whole (module_shape c.in-Ok.module)).1 c.in-Ok.ensures.found) s

pub returns-in-Err-Malformed-clause-malformed : goal.returns-in-Err-Malformed-clause-malformed
returns-in-Err-Malformed-clause-malformed c = λ _ m s.
    let x = (c.in_ok-front.ensures.whole m).0 s in
    c.in-Err-Malformed.ensures.malformed (ap (λ (f : Fault). Err f) c.in-Err-Malformed.field-0-is) x.0 x.1
