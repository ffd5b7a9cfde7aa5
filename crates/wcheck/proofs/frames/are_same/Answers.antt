use Rattle.std.proofs.Common.{refl}
use Rattle.wcheck.proofs.ReversedLists.{differ}
use Rattle.wcheck.proofs.frames.are_same.Goals as goal

pub returns-then-a-b : goal.returns-then-a-b
returns-then-a-b c = differ c.args.a.now c.args.b.now c.if-a-b.true _ refl
