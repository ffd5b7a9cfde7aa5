use Rattle.std.proofs.Common.{◌≡◌, ◌-◌, true, length, reverse, rules}
use Rattle.wsyntax.specs.Modules.{decoded_as}
use Rattle.explain_bytes.proofs.Lefts.{token_read}
use Rattle.explain_typing.proofs.Openings.{opened_read}
use Rattle.explain_typing.proofs.Typings.{stepped}
use Rattle.explain_typing.proofs.recheck.pass_token.Goals as goal

pub returns-clause-steps : goal.returns-clause-steps
returns-clause-steps c =
    let old = c.args.checker.now in
    let new = c.step_token.new.checker in
    let targets = c.token_at.new.targets.items in
    let t = c.in_ok-token.token in
    let taken : c.in_ok-step_token.field-0 ≡ true = search rules in
    record {
      token = decoded_as targets t;
      next = token_read c.args.bytes.now c.in_ok-token.after.now targets t c.in_ok-token.ensures.ok.2;
      step = stepped old.inside t c.deref.result.now targets old.frames new.frames c.in_ok-step_token.field-0 c.in_ok-step_token.ensures.step c.deref.ensures.value taken;
      same = c.in_ok-step_token.ensures.same;
    }

pub returns-clause-opened : goal.returns-clause-opened
returns-clause-opened c =
    let targets = c.token_at.new.targets.items in
    let t = c.in_ok-token.token in
    opened_read c.args.bytes.now c.in_ok-token.after.now (reverse c.args.trail.now.opened.items) (reverse c.note.new.self.opened.items) (decoded_as targets t)
    (length c.args.trail.now.code.now - length c.args.bytes.now) (token_read c.args.bytes.now c.in_ok-token.after.now targets t c.in_ok-token.ensures.ok.2) (c.in_ok-note.ensures.opened targets)
