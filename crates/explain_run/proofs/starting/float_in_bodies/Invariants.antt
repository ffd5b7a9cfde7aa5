-- No body so far has floats.
use Rattle.std.proofs.Common.{◌≡◌, drop}
use Rattle.accepted_module.specs.Judgement.{shapes_of}
use Rattle.explain_run.specs.Starting.{first_in}
use Rattle.explain_run.proofs.starting.float_in_bodies.Given as goal

abbrev pub invariant-loop-func : goal.invariant-loop-func
invariant-loop-func l = first_in 0 (shapes_of l.bodies) ≡ first_in l.func (shapes_of (drop l.func l.bodies))
