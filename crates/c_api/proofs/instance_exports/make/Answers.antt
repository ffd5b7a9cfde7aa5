use Rattle.std.proofs.Common.{Some, ap, sym, subst, ◌∙◌}
use Rattle.accepted_module.specs.declared.accepted.Accepted.{Accepted}
use Rattle.wstore.specs.CallLimits.{limits_of}
use Rattle.c_api.specs.Beginnings.{Begins}
use Rattle.c_api.specs.declared.live.Live.{Live}
use Rattle.c_api.proofs.InstanceOperations.{made}
use Rattle.c_api.proofs.instance_exports.make.Goals as goal

pub returns : goal.returns
returns c =
    made c.args.held.now.accepted.value c.args.settings.now c.args.instance.now c.tied.result c.args.ended.now c.begun.result c.in-Some.limits c.of-2.result
    c.in-Ok-begin.begun.0 c.in-Ok-begin.begun.1 (sym c.in-Some.ensures.range) c.in-Some.ensures.limits (c.of-2.ensures.accepted ∙ c.in-Ok.ensures) c.of-2.ensures.settings
    c.of-2.ensures.state
    (subst (λ (x : Accepted). Begins x (limits_of c.in-Some.limits) c.in-Ok-begin.begun.0 c.in-Ok-begin.begun.1) (c.deref.ensures ∙ c.in-Ok.ensures) c.in-Ok-begin.ensures.begun)
    (c.tied.ensures ∙ ap (λ (l : Live). Some l) (c.of-3.ensures ∙ c.in-Ok-new.ensures.ok ∙ c.sendable.ensures)) c.begun.ensures
