use Rattle.std.proofs.Common.{◌≡◌, All}
use Rattle.pieces.specs.Shares.{SameKind, taken, own_calls, bag_parts, mark_parts}
use Rattle.pieces.specs.Bags.{IsShareOf, HasSeatAt}
use Rattle.pieces.specs.Gathered.{Allowed}
use Rattle.pieces.specs.Working.{Answers}
use Rattle.pieces.proofs.work.work.Given as goal

abbrev pub invariant-loop : goal.invariant-loop
invariant-loop g l = record {
  in_bag : IsShareOf l.bag l.share;
  at_mark : HasSeatAt l.mark l.share;
  kind : SameKind l.fn.share.access l.share.access;
  bag_parts_are : bag_parts l.share ≡ bag_parts l.fn.share;
  mark_parts_are : mark_parts l.share ≡ mark_parts l.fn.share;
  local : g.J.Job.belongs l.job l.local;
  allowed : All (Allowed (g.J.Job.passes l.job) (g.J.Job.gives l.job) (g.J.Job.refuses l.job) l.bag.n) l.answers.items;
  answers : Answers l.bag.size l.bag.n (taken l.share) (own_calls l.share) l.answers.items;
}
