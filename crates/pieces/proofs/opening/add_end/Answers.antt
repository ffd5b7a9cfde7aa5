use Rattle.std.proofs.Common.{◌≡◌, arith, ap}
use Rattle.crossbeam_deque.specs.Handles.{worker_view}
use Rattle.pieces.proofs.DequeSteps.{adds_end}
use Rattle.pieces.proofs.opening.add_end.Goals as goal

pub push_as-requires-clause-pushes : goal.push_as-requires-clause-pushes
push_as-requires-clause-pushes c = let e : (worker_view c.args.owner.now).parts ≡ 64 = ap (λ v. v.parts) c.requires.view in adds_end _ _ (omega arith)
