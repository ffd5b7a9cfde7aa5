use Rattle.std.proofs.Common.{◌≡◌, ◌∷◌, ◌++◌, [], ap, sym, ◌∙◌, arith, subst}
use Rattle.pieces.specs.Shares.{taken, own_calls, bag_view_of}
use Rattle.pieces.specs.Working.{Answering}
use Rattle.pieces.proofs.Crews.{kind_trans, kind_same, in_same}
use Rattle.pieces.proofs.OneWorker.{piece_begun, piece_done, first_below}
use Rattle.pieces.proofs.work.work.Goals as goal

pub loop-preserved : goal.loop-preserved
loop-preserved g c =
    let t = c.in-Some-take.ensures in let r = c.in_ok-run_piece.ensures in let h = c.run_piece.ensures in let old = c.loop.invariant in
    let piece = t.some in
    let below = first_below c.args.bag.now.n c.args.bag.now.size piece.0 c.args.bag.now.sized piece.1 in
    let taken_is : taken c.run_piece.new.share ≡ taken c.loop.share ++ piece.0 ∷ [] = ap (λ x. (bag_view_of x).taken) h.same.access ∙ piece.4 in
    let began : Answering c.args.bag.now.size c.args.bag.now.n c.in-Some-take.piece.first c.in-Some-take.piece.first (taken c.loop.share) (own_calls c.take.new.share) c.loop.answers.items =
    subst (λ s. Answering c.args.bag.now.size c.args.bag.now.n c.in-Some-take.piece.first c.in-Some-take.piece.first (taken c.loop.share) s.me.0.made c.loop.answers.items) (sym t.same.seat)
    (piece_begun _ _ _ _ _ _ old.answers) in
    record {
      in_bag = in_same _ _ c.take.new.share c.run_piece.new.share h.same.access h.same.met t.bag;
      at_mark = h.mark.0;
      kind = kind_trans c.args.share.now.access c.take.new.share.access c.run_piece.new.share.access
          (kind_trans c.args.share.now.access c.loop.share.access c.take.new.share.access old.kind t.same.kind)
          (kind_same c.take.new.share.access c.run_piece.new.share.access h.same.access);
      bag_parts_are = ap (λ x. (bag_view_of x).parts) h.same.access ∙ t.same.parts ∙ old.bag_parts_are;
      mark_parts_are = h.mark.1 ∙ ap (λ s. s.me.0.parts) t.same.seat ∙ old.mark_parts_are;
      local = h.local;
      allowed = r.allowed;
      answers = piece_done _ _ piece.0 _ _ _ _ _ _ c.args.bag.now.sized piece.2 piece.3 taken_is (r.answers c.args.bag.now.size c.args.bag.now.n (taken c.loop.share) began (omega arith));
    }
