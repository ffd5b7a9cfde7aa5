use Rattle.std.proofs.Common.{◌≡◌, ℕ, List, All}
use Rattle.pieces.specs.Shares.{KeepsBag, own_calls, mark_parts}
use Rattle.pieces.specs.Bags.{HasSeatAt}
use Rattle.pieces.specs.Gathered.{Allowed}
use Rattle.pieces.specs.Working.{Answering}
use Rattle.pieces.proofs.work.run_piece.Given as goal

abbrev pub invariant-loop-index : goal.invariant-loop-index
invariant-loop-index g l = record {
  at_mark : HasSeatAt l.mark l.share;
  same : KeepsBag l.fn.share l.share;
  parts : mark_parts l.share ≡ mark_parts l.fn.share;
  local : g.J.Job.belongs l.job l.local;
  allowed : All (Allowed (g.J.Job.passes l.job) (g.J.Job.gives l.job) (g.J.Job.refuses l.job) l.n) l.answers.items;
  answers : (size n : ℕ) (before : List ℕ)
      → Answering size n l.fn.piece.first l.fn.piece.first before (own_calls l.fn.share) l.fn.answers.items
      → Answering size n l.fn.piece.first l.index before (own_calls l.share) l.answers.items;
}
