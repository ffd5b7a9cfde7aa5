use Rattle.std.proofs.Common.{◌≡◌, [], length, ap, sym, rules}
use Rattle.explain_typing.proofs.Openings.{no_outermost, one_longer, outermost_more}
use Rattle.explain_typing.proofs.trail.open_blocks.Goals as goal

pub loop-position-init : goal.loop-position-init
loop-position-init c =
    let trail = c.args.trail.now in
    let none : c.new-outermost.result.items ≡ [] = search rules in
    record { outermost = no_outermost trail.code.now trail.start trail.opened.items c.new-outermost.result.items none; count = ap length none }

pub loop-position-preserved : goal.loop-position-preserved
loop-position-preserved c =
    let l = c.loop-position in
    let trail = c.args.trail.now in
    let new = c.push.new.self.items in
    record {
      outermost = outermost_more trail.code.now trail.start trail.opened.items l.outermost.items new c.in-Some.opening l.position c.in_ok-push.ensures.items l.invariant.count c.in-Some.ensures l.invariant.outermost;
      count = one_longer l.outermost.items new c.in-Some.opening l.position c.in_ok-push.ensures.items l.invariant.count;
    }
