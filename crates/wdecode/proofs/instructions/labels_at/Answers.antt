use Rattle.std.proofs.Common.{◌++◌, ◌∷◌, [], List, ℕ, ap, ◌∙◌, append_assoc}
use Rattle.wsyntax.specs.Binary.Production.{times_at}
use Rattle.wsyntax.specs.Binary.Values.{u32}
use Rattle.wdecode.proofs.Loop.{goes_on}
use Rattle.wdecode.proofs.instructions.labels_at.Goals as goal

pub loop-preserved : goal.loop-preserved
loop-preserved c =
    let inv = c.loop.invariant in
    let n = c.in_ok-label.label in (
      inv.0 ++ n ∷ [],
      c.in_ok-push.ensures.items ∙ ap (λ (x : List ℕ). x ++ n ∷ []) inv.1 ∙ append_assoc c.args.targets.now.items inv.0 (n ∷ []),
      goes_on u32.read inv.0 c.args.count c.loop.counter c.loop.rest.now n c.in_ok-label.after.now (times_at u32.read c.args.count c.args.bytes.now) c.loop-test.true c.in_ok-label.ensures inv.2,
    )
