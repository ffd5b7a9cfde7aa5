use Rattle.std.proofs.Common.{sym}
use Rattle.std.proofs.lemmas.Result.{err_from_is_err_and}
use Rattle.wsyntax.specs.Binary.Nesting.{expression}
use Rattle.wdecode.proofs.Ends.{given, none_at_first, none_of_all, all_of}
use Rattle.wdecode.proofs.initial.initial_at.Goals as goal

pub returns-in_err-first : goal.returns-in_err-first
returns-in_err-first c =
    let p = err_from_is_err_and c.from_residual.result c.from_residual.ensures.1 in
    rw (p.1, p.2) (none_at_first c.in_err-first.field-0.0 c.args.bytes.now c.in_err-first.ensures.err)

pub returns-in-Some : goal.returns-in-Some
returns-in-Some c =
    let f = c.in_ok-first in
    let targets = c.token_at.new.targets.items in
    let begins = given c.args.bytes.now c.new-targets.result.items targets f.first f.rest.now f.ensures.ok in
    c.in-Some.ensures.single c.args.bytes.now targets begins

pub returns-in_err-after-in-None : goal.returns-in_err-after-in-None
returns-in_err-after-in-None c =
    let r = c.from_residual-in_err-after-in-None in
    let p = err_from_is_err_and r.result r.ensures.1 in
    let f = c.in_ok-first in
    let begins = given c.args.bytes.now c.new-targets.result.items c.token_at.new.targets.items f.first f.rest.now f.ensures.ok in
    let e = c.in_err-after-in-None in
    rw (p.1, p.2) (none_of_all e.field-0.0 (expression.read c.args.bytes.now) (e.ensures c.args.bytes.now begins))

pub invariant_of-result : goal.invariant_of-result
invariant_of-result c =
    let f = c.in_ok-first in
    let targets = c.token_at.new.targets.items in
    let begins = given c.args.bytes.now c.new-targets.result.items targets f.first f.rest.now f.ensures.ok in
    record { other = sym (c.in-None.ensures.form c.args.bytes.now targets begins) }

pub returns : goal.returns
returns c =
    let f = c.in_ok-first in
    let begins = given c.args.bytes.now c.new-targets.result.items c.token_at.new.targets.items f.first f.rest.now f.ensures.ok in
    let after = c.in_ok-after-in-None in
    all_of (expression.read c.args.bytes.now) after.after.now (after.ensures c.args.bytes.now begins)
