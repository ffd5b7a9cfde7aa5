use Rattle.std.proofs.Common.{ℕ, ap, ◌∙◌, subst}
use Rattle.accepted_module.specs.declared.accepted.Accepted.{Accepted}
use Rattle.c_api.specs.CallsOn.{IsNamed}
use Rattle.c_api.specs.Instances.{AnswersCallOn}
use Rattle.c_api.specs.declared.live.Live.{Live}
use Rattle.c_api.proofs.ExportNumbers.{named}
use Rattle.c_api.proofs.PutBack.{put_back}
use Rattle.c_api.proofs.instance_exports.gate_instance_call.Goals as goal

pub returns-clause-answer : goal.returns-clause-answer
returns-clause-answer c =
    let held = c.take-live.ensures.value ∙ c.loose.ensures.value in let found = c.export-found.result in (
      found,
      subst (λ (a : Accepted). IsNamed a c.args.name.now found) (c.deref.ensures ∙ ap (λ (l : Live). l.accepted.value) held)
          (named c.deref.result.now c.args.name.now found c.export-found.ensures.some c.export-found.ensures.none),
      put_back (λ (old new : Live) (s : ℕ). AnswersCallOn old found c.args.args.now c.args.settings.now c.args.results.now c.call-live.new.results c.args.ended.now c.call-live.new.ended new s)
          c.take-live.result.0 c.args.instance.value c.call-live.result.0 c.of.result.value c.call-live.result.1 c.of.result.status held
          (c.of.ensures.value ∙ c.fill.ensures.value) c.of.ensures.status c.call-live.ensures,
    )
