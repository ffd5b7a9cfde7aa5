use Rattle.std.proofs.Common.{◌≡◌, arith}
use Rattle.std.proofs.lemmas.List.Elements.{All-push}
use Rattle.verdict.specs.declared.passing.Scratch.{Scratch}
use Rattle.verdict.proofs.examining.new_scratches.Goals as goal

pub loop-preserved : goal.loop-preserved
loop-preserved c = (
  omega (arith, c.in_ok-push.ensures.len, c.loop.invariant.0),
  rw c.in_ok-push.ensures.items (All-push (λ (s : Scratch). s.checker.outside ≡ c.args.head.now.context.context) c.loop.scratches.items c.in_ok-scratch.scratch c.loop.invariant.1 c.in_ok-scratch.ensures),
)
