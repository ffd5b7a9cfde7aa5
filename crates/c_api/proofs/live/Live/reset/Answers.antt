use Rattle.std.proofs.Common.{inl, refl, subst}
use Rattle.accepted_module.specs.declared.accepted.Accepted.{Accepted}
use Rattle.wstore.specs.CallLimits.{limits_of}
use Rattle.c_api.specs.Beginnings.{Begins}
use Rattle.c_api.proofs.Instances.{is_instance}
use Rattle.c_api.proofs.live.Live.reset.Goals as goal

pub attached-requires : goal.attached-requires
attached-requires c = is_instance c.args.self.accepted.value c.args.self.state c.in-Some.state c.args.self.held c.in-Some.is

pub returns-in-Ok : goal.returns-in-Ok
returns-in-Ok c =
    let begins = subst (λ (x : Accepted). Begins x (limits_of c.args.self.settings) c.in-Ok.state c.in-Ok.fuel) c.deref.ensures c.in-Ok.ensures.begun in
    ((c.of.ensures.accepted, c.of.ensures.settings), inl (refl, c.in-Ok.state, c.in-Ok.fuel, c.of.ensures.state, begins, c.begun.ensures))
