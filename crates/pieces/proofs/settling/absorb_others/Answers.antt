use Rattle.std.proofs.Common.{List, ap, ◌∙◌, arith, subst}
use Rattle.crossbeam_deque.specs.Handles.{worker_deque, worker_view}
use Rattle.pieces.specs.declared.share.Share.{Share}
use Rattle.pieces.specs.Shares.{EachShare, IsIn, IsOn, IsStealing, bag_view_of}
use Rattle.pieces.specs.Absorbing.{Absorbs}
use Rattle.pieces.proofs.DequeSteps.{merges}
use Rattle.pieces.proofs.MarkSteps.{joins}
use Rattle.pieces.proofs.Absorbing.{absorbs_one, EachShare-init}
use Rattle.pieces.proofs.settling.absorb_others.Goals as goal

pub absorb-requires-clause-rule : goal.absorb-requires-clause-rule
absorb-requires-clause-rule c = merges _ _ _ _ c.loop-share.invariant.parts.0

pub join_seat-requires : goal.join_seat-requires
join_seat-requires c =
    let on = EachShare-init (IsOn c.args.table.now.shared.table_id) c.pop.new.self.items c.in-Some.share (subst (EachShare (IsOn c.args.table.now.shared.table_id)) c.in-Some.ensures.items c.loop-share.invariant.others.2) in
    let one = c.requires.seat.1 in
    (c.loop-share.invariant.table ∙ c.requires.seat.0, on.1.seat, on.1.free, omega arith, joins _ _ _ _ c.loop-share.invariant.parts.1)

pub loop-share-preserved : goal.loop-share-preserved
loop-share-preserved c =
    let is = c.in-Some.ensures.items in let o = c.loop-share.invariant.others in
    let v = c.absorb.ensures.rule in let n = ap (λ m. m.0) c.join_seat.ensures.2 in
    let access = ap bag_view_of c.in-Steals.is in
    record {
      deque = c.absorb.ensures.same.0.0 ∙ c.loop-share.invariant.deque;
      table = c.join_seat.ensures.0 ∙ c.loop-share.invariant.table;
      parts = (rw v (let p = c.loop-share.invariant.parts.0 in omega arith), rw n (let p = c.loop-share.invariant.parts.1 in omega arith));
      others = (
        o.0,
        (EachShare-init (IsIn (worker_deque c.args.owner.now) o.0) c.pop.new.self.items c.in-Some.share (subst (EachShare (IsIn (worker_deque c.args.owner.now) o.0)) is o.1)).0,
        (EachShare-init (IsOn c.args.table.now.shared.table_id) c.pop.new.self.items c.in-Some.share (subst (EachShare (IsOn c.args.table.now.shared.table_id)) is o.2)).0,
        (EachShare-init (λ t. IsStealing t.access) c.pop.new.self.items c.in-Some.share (subst (EachShare (λ t. IsStealing t.access)) is o.3)).0,
      );
      all = rw (v, n, ← access) (absorbs_one _ _ c.pop.new.self.items c.in-Some.share _ _ _
          (subst (λ (ss : List Share). Absorbs (worker_view c.loop-share.owner) c.loop-share.seat.me.0 ss (worker_view c.args.owner.now) c.args.seat.now.me.0 c.args.others.items) is c.loop-share.invariant.all));
    }
