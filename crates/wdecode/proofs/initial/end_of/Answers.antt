use Rattle.std.proofs.Common.{reverse, ap}
use Rattle.std.proofs.lemmas.Result.{err_from_is_err_and}
use Rattle.wsyntax.specs.Modules.{decoded_as}
use Rattle.wdecode.proofs.Ends.{starts, given, goes_on, closes, cannot_stand, none_there}
use Rattle.wdecode.proofs.initial.end_of.Goals as goal

pub each-init : goal.each-init
each-init c = λ whole begins.
    let s = reverse c.new-opened.result.items in
    let t = decoded_as c.args.targets.now.items c.args.first in
    starts whole s t c.args.bytes.now (ap reverse c.new-opened.ensures.items) begins

pub returns-in_err-closes : goal.returns-in_err-closes
returns-in_err-closes c = λ whole begins.
    let p = err_from_is_err_and c.from_residual.result c.from_residual.ensures.1 in
    let l = c.each in
    let t = decoded_as l.targets.items l.token in
    let none = c.in_err-closes.ensures.err l.targets.items in
    rw (p.1, p.2) (cannot_stand c.in_err-closes.field-0.0 whole (reverse l.opened.items) t l.rest.now (l.invariant whole begins) none)

pub returns-then-closes : goal.returns-then-closes
returns-then-closes c = λ whole begins.
    let l = c.each in
    let s = reverse l.opened.items in
    let now = reverse c.enter.new.opened.items in
    let t = decoded_as l.targets.items l.token in
    let moves = c.in_ok-closes.ensures.ok l.targets.items in
    closes whole s now t l.rest.now c.in_ok-closes.closes (l.invariant whole begins) moves c.if-closes.true

pub returns-in_err-next : goal.returns-in_err-next
returns-in_err-next c = λ whole begins.
    let p = err_from_is_err_and c.from_residual-in_err-next.result c.from_residual-in_err-next.ensures.1 in
    let l = c.each in
    let s = reverse l.opened.items in
    let now = reverse c.enter.new.opened.items in
    let t = decoded_as l.targets.items l.token in
    let moves = c.in_ok-closes.ensures.ok l.targets.items in
    let e = c.in_err-next in
    let reached = l.invariant whole begins in
    rw (p.1, p.2) (none_there e.field-0.0 whole s now t l.rest.now c.in_ok-closes.closes reached moves c.if-closes.false e.ensures.err)

pub each-preserved : goal.each-preserved
each-preserved c = λ whole begins.
    let l = c.each in
    let s = reverse l.opened.items in
    let now = reverse c.enter.new.opened.items in
    let t = decoded_as l.targets.items l.token in
    let moves = c.in_ok-closes.ensures.ok l.targets.items in
    let n = c.in_ok-next in
    let u = decoded_as c.token_at.new.targets.items n.next in
    let next = given l.rest.now c.clear.new.self.items c.token_at.new.targets.items n.next n.after.now n.ensures.ok in
    goes_on whole s now t u l.rest.now n.after.now c.in_ok-closes.closes (l.invariant whole begins) moves c.if-closes.false next
