use Rattle.wsyntax.specs.Modules.{decoded_as}
use Rattle.wdecode.proofs.ConstantForms.{single_form, other_token, other_end}
use Rattle.wdecode.proofs.Initials.{single_given}
use Rattle.wdecode.proofs.initial.single_at.Goals as goal

pub returns-in_err-after-clause-form : goal.returns-in_err-after-clause-form
returns-in_err-after-clause-form c = λ whole targets begins.
    let none = c.from_residual.ensures in
    rw none (other_end whole (decoded_as targets c.args.token) c.args.bytes.now begins c.in_err-after.ensures)

pub returns-in_err-initial-clause-form : goal.returns-in_err-initial-clause-form
returns-in_err-initial-clause-form c = λ whole targets begins.
    let none = c.from_residual-in_err-initial.ensures in
    rw none (other_token whole (decoded_as targets c.args.token) c.args.bytes.now begins (c.in_err-initial.ensures.form targets))

pub returns-clause-form : goal.returns-clause-form
returns-clause-form c = λ whole targets begins.
    let x = c.in_ok-initial in
    let t = decoded_as targets c.args.token in
    let form = x.ensures.form targets in
    let tokens = x.ensures.tokens targets in
    let rest = c.in_ok-after.after.now in
    let read = single_given whole c.args.bytes.now rest t x.initial begins c.in_ok-after.ensures form tokens in
    single_form whole rest t x.initial read form tokens

pub returns-clause-single : goal.returns-clause-single
returns-clause-single c = λ whole targets begins.
    let x = c.in_ok-initial in
    let t = decoded_as targets c.args.token in
    let rest = c.in_ok-after.after.now in
    single_given whole c.args.bytes.now rest t x.initial begins c.in_ok-after.ensures (x.ensures.form targets) (x.ensures.tokens targets)
