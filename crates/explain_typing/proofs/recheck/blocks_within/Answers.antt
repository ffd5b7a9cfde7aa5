use Rattle.std.proofs.Common.{List, [], ◌++◌, ◌-◌, ◌+◌, ◌≡◌, length, map, reverse, take, ap, sym, subst, refl, rules}
use Rattle.explain_typing.specs.Typed.{AreKept, block_types}
use Rattle.explanation.specs.Functions.{type_told}
use Rattle.explanation.specs.declared.typing.OpenBlock.{OpenBlock}
use Rattle.explain_typing.proofs.Openings.{none_opened, openings_more, one_longer}
use Rattle.explain_typing.proofs.Typings.{block_left, not_ended, one_told}
use Rattle.explain_typing.proofs.recheck.blocks_within.Goals as goal

pub loop-inner-init : goal.loop-inner-init
loop-inner-init c =
    let trail = c.args.trail.now in
    let fs = take 8 (block_types c.args.checker.now.frames) in
    let none : c.new-blocks.result.items ≡ [] = search rules in
    record {
      types = subst (λ (bs : List OpenBlock). map (λ b. type_told b.signature) bs ++ fs ≡ fs) (sym none) refl;
      openings = subst (λ (bs : List OpenBlock). AreKept trail bs) (sym none) (none_opened trail.code.now trail.start (reverse trail.opened.items));
      count = ap length none;
    }

pub loop-inner-preserved : goal.loop-inner-preserved
loop-inner-preserved c =
    let l = c.loop-inner in
    let fs = l.checker.frames in
    let gs = c.leave.new.self.frames in
    let trail = c.args.trail.now in
    record {
      types = one_told (λ b. type_told b.signature) l.blocks.items c.push.new.self.items _ (take (8 - l.inner) (block_types fs)) (take (8 - (l.inner + 1)) (block_types gs)) _ c.in_ok-push.ensures.items
          (block_left fs gs c.in-Some.frame (type_told c.in_ok-signature_in.field-0) l.inner c.loop-inner-test.true c.in-Some.ensures c.leave.ensures.left (not_ended c.is_finished.result gs c.is_finished.ensures.1 c.if-is_finished.false) c.in_ok-signature_in.ensures)
          l.invariant.types;
      openings = openings_more trail.code.now trail.start (reverse trail.opened.items) l.blocks.items c.push.new.self.items _ l.inner c.in_ok-push.ensures.items l.invariant.count c.opening.ensures l.invariant.openings;
      count = one_longer l.blocks.items c.push.new.self.items _ l.inner c.in_ok-push.ensures.items l.invariant.count;
    }
