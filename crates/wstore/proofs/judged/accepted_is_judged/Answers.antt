use Rattle.std.proofs.Math.Logic.{∥∥₁_map}
use Rattle.wsyntax.specs.Modules.{module_shape}
use Rattle.wstore.proofs.Judging.{judged_of}
use Rattle.wstore.proofs.judged.accepted_is_judged.Goals as goal

pub returns : goal.returns
returns c =
    ∥∥₁_map c.accepted_holds.ensures (λ j. judged_of (module_shape c.args.accepted.now.module) c.args.accepted.now.context c.args.accepted.now.bodies.items j)
