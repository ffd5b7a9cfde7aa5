use Rattle.std.proofs.Common.{◌≡◌, ◌≢◌, length, vec_len, rules, Err, sym, ap, ◌∙◌}
use Rattle.std.proofs.lemmas.List.{length-map}
use Rattle.std.proofs.lemmas.Result.{err_from_is_err_and}
use Rattle.wsyntax.specs.Modules.{module_shape}
use Rattle.wdecode.specs.declared.fault.Fault.{Fault}
use Rattle.wdecode.specs.declared.fault.Fault.TheVariants.{Malformed}
use Rattle.wdecode.proofs.FrontLaws.{fault_is, no_shell, front_made, unpaired, next_is}
use Rattle.wdecode.proofs.module.front_at.Goals as goal

pub returns-in_err-module-clause-malformed : goal.returns-in_err-module-clause-malformed
returns-in_err-module-clause-malformed c = λ h m s.
    let p = err_from_is_err_and c.from_residual.result c.from_residual.ensures.1 in
    let is = fault_is c.from_residual.result p.0 c.in_err-module.field-0.0 Malformed p.1 p.2 h in
    no_shell c.args.bytes.now c.in-Some.tail.now (module_shape c.empty.result) (sym c.in-Some.ensures) c.empty.ensures (λ to ends. c.in_err-module.ensures.malformed (ap (λ (f : Fault). Err f) is) to ends) m s

pub returns-then-len-clause-whole : goal.returns-then-len-clause-whole
returns-then-len-clause-whole c =
    let p = c.in_ok-module.field-0 in
    let m = module_shape p.module in
    let functions : length m.functions ≡ vec_len p.module.functions = search rules in
    let bodies : length m.bodies ≡ vec_len p.module.bodies = simp length-map (search rules) in
    let paired : length m.functions ≡ length m.bodies = functions ∙ sym c.len.ensures ∙ c.if-len.true ∙ c.len-2.ensures ∙ sym bodies in
    front_made c.args.bytes.now c.in-Some.tail.now (module_shape c.empty.result) p.last m p.rest.now (sym c.in-Some.ensures) c.empty.ensures c.in_ok-module.ensures.same (next_is p.rest.now c.in_ok-module.ensures.over) paired

pub returns-clause-malformed : goal.returns-clause-malformed
returns-clause-malformed c = λ _ m s.
    let p = c.in_ok-module.field-0 in
    let n = module_shape p.module in
    let functions : length n.functions ≡ vec_len p.module.functions = search rules in
    let bodies : length n.bodies ≡ vec_len p.module.bodies = simp length-map (search rules) in
    let differ : length n.functions ≢ length n.bodies = λ e. c.if-len.false (c.len.ensures ∙ sym functions ∙ e ∙ bodies ∙ sym c.len-2.ensures) in
    unpaired c.args.bytes.now c.in-Some.tail.now (module_shape c.empty.result) p.last n p.rest.now (sym c.in-Some.ensures) c.empty.ensures c.in_ok-module.ensures.same (next_is p.rest.now c.in_ok-module.ensures.over) differ m s
