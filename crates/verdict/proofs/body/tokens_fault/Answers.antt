use Rattle.std.proofs.Common.{refl, sym, arith, ◌≡◌, ◌∙◌, ◌-◌, ◌+◌, suc, [], length, reverse}
use Rattle.std.proofs.lemmas.Result.{err_from_is_err_and}
use Rattle.wsyntax.specs.Modules.{decoded_as}
use Rattle.verdict.proofs.WholeBodies.{begins, reads_one, closes_body, closes_early, none_there, cannot_stand, unclosed, read_lent}
use Rattle.verdict.proofs.body.tokens_fault.Goals as goal

pub loop-at-init : goal.loop-at-init
loop-at-init c = record {
  outside = refl;
  tells_same = begins c.args.checker.now c.args.known c.args.bytes.now c.new-opened.result.items c.new-opened.ensures.items;
}

pub returns-in_err-token-clause-verdict : goal.returns-in_err-token-clause-verdict
returns-in_err-token-clause-verdict c =
    let p = err_from_is_err_and c.from_residual.result c.from_residual.ensures.1 in
    let l = c.loop-at in
    let n = length c.args.bytes.now in
    let fuel : n - l.at ≡ suc (n - (l.at + 1)) = omega (arith, c.loop-at-test.true) in
    rw (p.1, p.2) (none_there c.args.checker.now l.checker c.args.known l.so_far c.args.bytes.now l.rest.now l.at (n - l.at) (n - (l.at + 1)) (reverse l.opened.items) c.in_err-token.field-0.0 fuel c.in_err-token.ensures.err l.invariant.tells_same)

pub returns-in_err-closes-clause-verdict : goal.returns-in_err-closes-clause-verdict
returns-in_err-closes-clause-verdict c =
    let p = err_from_is_err_and c.from_residual-in_err-closes.result c.from_residual-in_err-closes.ensures.1 in
    let l = c.loop-at in
    let n = length c.args.bytes.now in
    let fuel : n - l.at ≡ suc (n - (l.at + 1)) = omega (arith, c.loop-at-test.true) in
    let lent = c.deref.result.now in
    let read = read_lent l.rest.now c.in_ok-token.after.now c.token_at.new.targets.items lent c.in_ok-token.token (c.in_ok-token.ensures.ok.2 []) c.deref.ensures.value in
    rw (p.1, p.2) (cannot_stand c.args.checker.now l.checker c.args.known l.so_far c.args.bytes.now l.rest.now c.in_ok-token.after.now l.at (n - l.at) (n - (l.at + 1)) (reverse l.opened.items) (decoded_as lent c.in_ok-token.token) c.in_err-closes.field-0.0 fuel read (c.in_err-closes.ensures.err lent) l.invariant.tells_same)

pub returns-then-is_empty-clause-verdict : goal.returns-then-is_empty-clause-verdict
returns-then-is_empty-clause-verdict c =
    let l = c.loop-at in
    let n = length c.args.bytes.now in
    let fuel : n - l.at ≡ suc (n - (l.at + 1)) = omega (arith, c.loop-at-test.true) in
    let lent = c.deref.result.now in
    let read = read_lent l.rest.now c.in_ok-token.after.now c.token_at.new.targets.items lent c.in_ok-token.token (c.in_ok-token.ensures.ok.2 []) c.deref.ensures.value in
    closes_body c.args.checker.now l.checker c.look.new.checker c.args.known l.so_far c.in_ok-so_far.so_far c.args.bytes.now l.rest.now c.in_ok-token.after.now l.at (n - l.at) (n - (l.at + 1)) _ (reverse l.opened.items) (reverse c.enter.new.opened.items) (decoded_as lent c.in_ok-token.token) c.in_ok-closes.closes _ fuel refl read c.in_ok-so_far.ensures.goes_on (c.in_ok-closes.ensures.ok lent) c.if-closes.true (sym c.is_empty.ensures ∙ c.if-is_empty.true) c.at_end.ensures l.invariant.tells_same

pub returns-then-closes-clause-verdict : goal.returns-then-closes-clause-verdict
returns-then-closes-clause-verdict c =
    let l = c.loop-at in
    let n = length c.args.bytes.now in
    let fuel : n - l.at ≡ suc (n - (l.at + 1)) = omega (arith, c.loop-at-test.true) in
    let lent = c.deref.result.now in
    let read = read_lent l.rest.now c.in_ok-token.after.now c.token_at.new.targets.items lent c.in_ok-token.token (c.in_ok-token.ensures.ok.2 []) c.deref.ensures.value in
    closes_early c.args.checker.now l.checker c.look.new.checker c.args.known l.so_far c.in_ok-so_far.so_far c.args.bytes.now l.rest.now c.in_ok-token.after.now l.at (n - l.at) (n - (l.at + 1)) _ (reverse l.opened.items) (reverse c.enter.new.opened.items) (decoded_as lent c.in_ok-token.token) c.in_ok-closes.closes fuel refl read c.in_ok-so_far.ensures.goes_on (c.in_ok-closes.ensures.ok lent) c.if-closes.true (sym c.is_empty.ensures ∙ c.if-is_empty.false) l.invariant.tells_same

pub loop-at-preserved : goal.loop-at-preserved
loop-at-preserved c =
    let l = c.loop-at in
    let n = length c.args.bytes.now in
    let fuel : n - l.at ≡ suc (n - (l.at + 1)) = omega (arith, c.loop-at-test.true) in
    let lent = c.deref.result.now in
    let read = read_lent l.rest.now c.in_ok-token.after.now c.token_at.new.targets.items lent c.in_ok-token.token (c.in_ok-token.ensures.ok.2 []) c.deref.ensures.value in
    record {
      outside = c.in_ok-so_far.ensures.outside ∙ l.invariant.outside;
      tells_same = reads_one c.args.checker.now l.checker c.look.new.checker c.args.known l.so_far c.in_ok-so_far.so_far c.args.bytes.now l.rest.now c.in_ok-token.after.now l.at (n - l.at) (n - (l.at + 1)) _ (reverse l.opened.items) (reverse c.enter.new.opened.items) (decoded_as lent c.in_ok-token.token) c.in_ok-closes.closes fuel refl read c.in_ok-so_far.ensures.goes_on (c.in_ok-closes.ensures.ok lent) c.if-closes.false l.invariant.tells_same;
    }

pub returns-clause-verdict : goal.returns-clause-verdict
returns-clause-verdict c =
    let l = c.loop-at in
    let n = length c.args.bytes.now in
    unclosed c.args.checker.now l.checker c.args.known l.so_far c.args.bytes.now l.rest.now l.at (n - l.at) (reverse l.opened.items) (omega (arith, c.loop-at-test.false)) l.invariant.tells_same
