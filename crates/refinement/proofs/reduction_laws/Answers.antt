use Rattle.refinement.proofs.reduction_laws.Goals as goal

pub returns : goal.returns
returns c = record { steps_there = c.steps_there.ensures; branch_lands = c.branch_lands.ensures; return_gives = c.return_gives.ensures; return_ends = c.return_ends.ensures; trap_falls = c.trap_falls.ensures; effect_is_step = c.effect_is_step.ensures; straight_typed = c.straight_typed.ensures }
