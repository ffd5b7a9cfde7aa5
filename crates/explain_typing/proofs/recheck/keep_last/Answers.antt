use Rattle.std.proofs.Common.{refl, arith}
use Rattle.explain_typing.proofs.Passed.{not_kept, one_kept}
use Rattle.explain_typing.proofs.recheck.keep_last.Goals as goal

pub returns-then-position-saturating_sub : goal.returns-then-position-saturating_sub
returns-then-position-saturating_sub c = not_kept c.args.body.now c.args.start c.args.count c.args.position c.args.passed.now.items (omega arith)

pub returns : goal.returns
returns c = one_kept c.args.body.now c.args.rest.now c.args.start c.args.count c.args.position c.args.passed.now.items c.push.new.self.items _ (omega arith) c.in_ok-push.ensures.items refl
    c.requires c.in_ok-found.ensures
