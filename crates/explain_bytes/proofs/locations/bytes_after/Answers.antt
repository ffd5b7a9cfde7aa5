use Rattle.std.proofs.Common.{ℕ, List, [], Option, ap}
use Rattle.wsyntax.specs.Instructions.{Token}
use Rattle.wdecode.specs.Gives.{rest_of}
use Rattle.explain_bytes.proofs.Lefts.{one_more}
use Rattle.explain_bytes.proofs.locations.bytes_after.Goals as goal

pub loop-at-preserved : goal.loop-at-preserved
loop-at-preserved c = one_more c.loop-at.at c.args.bytes.now c.loop-at.rest.now c.in_ok-_token.after.now c.loop-at.invariant
    (ap (λ (x : Option (Token × List ℕ)). rest_of x) (c.in_ok-_token.ensures.ok.2 []))
