use Rattle.std.proofs.Common.{MatchOption, refl, inl, inr, ap, ◌∙◌, subst}
use Rattle.wsyntax.specs.Modules.{module_shape}
use Rattle.wsyntax.specs.Texts.Answer.{IsMissing}
use Rattle.accepted_module.specs.declared.accepted.Accepted.{Accepted}
use Rattle.c_api.specs.CallsOn.{HasNumber}
use Rattle.c_api.specs.declared.live.Live.{Live}
use Rattle.c_api.proofs.instance_exports.gate_instance_find.Goals.{in-Some, in-None}
use Rattle.c_api.proofs.instance_exports.gate_instance_find.Goals as goal

pub returns-clause-answer : goal.returns-clause-answer
returns-clause-answer c =
    let name = c.args.name.now in let held = c.as_ref.ensures ∙ c.loose-live.ensures.value in
    let found =
    subst (λ (a : Accepted). MatchOption c.number_of.result (IsMissing (module_shape a.«module») name) (HasNumber a name))
    (c.deref.ensures ∙ ap (λ (l : Live). l.accepted.value) held) c.number_of.ensures in
    elim c.match-number_of.branch [
      | in-Some w ↦ rw (c.of.ensures.status, w.status-is, w.number-is) (inl (refl, rw w.in-Some.is at found))
      | in-None w ↦ rw (c.of.ensures.status, w.status-is, w.number-is) (inr (refl, rw w.in-None.is at found, refl))
    ]
