use Rattle.std.proofs.Common.{◌≡◌, arith}
use Rattle.std.proofs.lemmas.List.Elements.{All-push}
use Rattle.wcheck.specs.Checking.{Checking}
use Rattle.verdict.proofs.judging.new_checkers.Goals as goal

pub loop-preserved : goal.loop-preserved
loop-preserved c = (
  omega (arith, c.in_ok-push.ensures.len, c.loop.invariant.0),
  rw c.in_ok-push.ensures.items (All-push (λ (s : Checking). s.outside ≡ c.args.context.now.context) c.loop.checkers.items c.new.result c.loop.invariant.1 c.new.ensures.outside),
)
