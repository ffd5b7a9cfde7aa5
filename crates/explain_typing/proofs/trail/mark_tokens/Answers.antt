use Rattle.std.proofs.Common.{◌-◌, length, refl, reverse, ◌∙◌, ap}
use Rattle.wsyntax.specs.Modules.{decoded_as}
use Rattle.explain_bytes.proofs.Lefts.{one_after, one_more, token_read}
use Rattle.explain_typing.proofs.Openings.{opened_more, opened_read}
use Rattle.explain_typing.proofs.trail.mark_tokens.Goals as goal

pub loop-position-init : goal.loop-position-init
loop-position-init c = record { left = refl; same = (refl, refl); opened = ap reverse c.requires.opened }

pub loop-position-preserved : goal.loop-position-preserved
loop-position-preserved c =
    let l = c.loop-position in
    let targets = c.token_at.new.targets.items in
    let t = decoded_as targets c.in_ok-token.token in
    let after = c.in_ok-token.after.now in
    let read = token_read l.rest.now after targets c.in_ok-token.token c.in_ok-token.ensures.ok.2 in
    let old = reverse l.trail.opened.items in
    let new = reverse c.mark_next.new.self.opened.items in
    record {
      left = one_more l.position c.args.code.now l.rest.now after l.invariant.left (one_after t l.rest.now after read);
      same = (c.in_ok-mark_next.ensures.same.0 ∙ l.invariant.same.0, c.in_ok-mark_next.ensures.same.1 ∙ l.invariant.same.1);
      opened = opened_more l.position c.args.code.now l.trail.code.now l.rest.now old new l.invariant.left (l.invariant.same.0 ∙ c.requires.code) l.invariant.opened
          (opened_read l.rest.now after old new t (length l.trail.code.now - length l.rest.now) read (c.in_ok-mark_next.ensures.opened targets));
    }
