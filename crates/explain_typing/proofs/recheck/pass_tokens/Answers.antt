use Rattle.std.proofs.Common.{refl, reverse, ◌∙◌, ap}
use Rattle.explain_bytes.proofs.Lefts.{one_after, one_more}
use Rattle.explain_typing.proofs.Openings.{opened_more}
use Rattle.explain_typing.proofs.Passed.{left_of_body, none_passed_yet}
use Rattle.explain_typing.proofs.Typings.{none_passed, pass_more}
use Rattle.explain_typing.proofs.recheck.pass_tokens.Goals as goal

pub loop-position-init : goal.loop-position-init
loop-position-init c = record { last = none_passed_yet c.args.body.now c.args.start c.args.count c.args.passed.now.items c.requires.none; left = refl; passed = none_passed c.args.checker.now c.args.code.now; same = (refl, refl); opened = ap reverse c.requires.opened }

pub loop-position-preserved : goal.loop-position-preserved
loop-position-preserved c =
    let l = c.loop-position in
    let s = c.in_ok-rest.ensures.steps in
    let after = c.in_ok-rest.rest.now in
    record {
      last = c.in_ok-keep_last.ensures l.invariant.last;
      left = one_more l.position c.args.code.now l.rest.now after l.invariant.left (one_after s.token l.rest.now after s.next);
      passed = pass_more c.args.checker.now l.checker c.pass_token.new.checker c.args.code.now l.rest.now after l.position l.invariant.left l.invariant.passed s;
      same = (c.in_ok-rest.ensures.same.0 ∙ l.invariant.same.0, c.in_ok-rest.ensures.same.1 ∙ l.invariant.same.1);
      opened = opened_more l.position c.args.code.now l.trail.code.now l.rest.now (reverse l.trail.opened.items) (reverse c.pass_token.new.trail.opened.items) l.invariant.left
          (l.invariant.same.0 ∙ c.requires.code) l.invariant.opened c.in_ok-rest.ensures.opened;
    }

pub keep_last-requires : goal.keep_last-requires
keep_last-requires c = left_of_body c.args.body.now c.args.code.now c.loop-position.rest.now c.loop-position.position c.requires.left c.loop-position.invariant.left
