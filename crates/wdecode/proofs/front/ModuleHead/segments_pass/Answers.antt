use Rattle.std.proofs.Common.{List, ℕ, Err, sym, ap, subst, arith}
use Rattle.std.proofs.lemmas.Result.{err_from_is_err_and}
use Rattle.wsyntax.specs.Modules.{module_shape}
use Rattle.wdecode.specs.declared.fault.Fault.{Fault}
use Rattle.wdecode.specs.declared.fault.Fault.TheVariants.{Malformed}
use Rattle.wdecode.specs.Fronts.{with_segments, EndsAs}
use Rattle.wdecode.proofs.FrontLaws.{fault_is, after_id, begin, no_blob, no_segments, no_customs, segments_end}
use Rattle.wdecode.proofs.front.ModuleHead.segments_pass.Goals as goal

pub returns-in_err-segments-clause-malformed : goal.returns-in_err-segments-clause-malformed
returns-in_err-segments-clause-malformed g c = λ h segments ends.
    let p = err_from_is_err_and c.from_residual.result c.from_residual.ensures.1 in
    let is = fault_is c.from_residual.result p.0 c.in_err-segments.field-0.0 Malformed p.1 p.2 h in
    let f = c.args.self.now in
    let m = module_shape f.module in
    let to = with_segments m segments in
    let front = begin f.rest.now (omega (arith, c.in-len1-up.len_at_least)) f.next in
    no_blob c.in_err-segments.field-0.0 f.last m (after_id f.rest.now) c.in_err-segments.ensures is to (subst (λ (b : List ℕ). EndsAs f.last m b to) front ends)

pub returns-in_err-pass-clause-malformed : goal.returns-in_err-pass-clause-malformed
returns-in_err-pass-clause-malformed g c = λ h segments ends.
    let p = err_from_is_err_and c.from_residual-in_err-pass.result c.from_residual-in_err-pass.ensures.1 in
    let is = fault_is c.from_residual-in_err-pass.result p.0 c.in_err-pass.field-0.0 Malformed p.1 p.2 h in
    let f = c.args.self.now in
    let m = module_shape f.module in
    let to = with_segments m segments in
    let front = begin f.rest.now (omega (arith, c.in-len1-up.len_at_least)) f.next in
    no_segments f.last m (after_id f.rest.now) c.in_ok-segments.segments.now c.in_ok-segments.after.now c.in_ok-segments.ensures (c.in_err-pass.ensures.malformed (ap (λ (x : Fault). Err x) is)) to (subst (λ (b : List ℕ). EndsAs f.last m b to) front ends)

pub returns-in_err-only_customs-clause-malformed : goal.returns-in_err-only_customs-clause-malformed
returns-in_err-only_customs-clause-malformed g c = λ h segments ends.
    let p = err_from_is_err_and c.from_residual-in_err-only_customs.result c.from_residual-in_err-only_customs.ensures.1 in
    let is = fault_is c.from_residual-in_err-only_customs.result p.0 c.in_err-only_customs.field-0.0 Malformed p.1 p.2 h in
    let f = c.args.self.now in
    let m = module_shape f.module in
    let to = with_segments m segments in
    let found = c.in_ok-pass.ensures.found in
    let front = begin f.rest.now (omega (arith, c.in-len1-up.len_at_least)) f.next in
    no_customs f.last m (after_id f.rest.now) c.in_ok-segments.segments.now c.in_ok-segments.after.now found.0 f.early c.in_ok-segments.ensures found.1 (c.in_err-only_customs.ensures.malformed (ap (λ (x : Fault). Err x) is)) to (subst (λ (b : List ℕ). EndsAs f.last m b to) front ends)

pub returns-clause-found : goal.returns-clause-found
returns-clause-found g c =
    let f = c.args.self.now in
    let m = module_shape f.module in
    let found = c.in_ok-pass.ensures.found in
    let front = begin f.rest.now (omega (arith, c.in-len1-up.len_at_least)) f.next in
    let ends = segments_end f.last m (after_id f.rest.now) c.in_ok-segments.segments.now c.in_ok-segments.after.now found.0 f.early c.in_ok-segments.ensures found.1 c.in_ok-only_customs.ensures.found in
    (found.0, subst (λ (b : List ℕ). EndsAs f.last m b (with_segments m found.0)) (sym front) ends, found.2)
