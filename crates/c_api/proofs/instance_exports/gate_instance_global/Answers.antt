use Rattle.std.proofs.Common.{ℕ, ◌∙◌}
use Rattle.c_api.specs.Instances.{AnswersGlobal}
use Rattle.c_api.specs.declared.live.Live.{Live}
use Rattle.c_api.proofs.PutBack.{put_back}
use Rattle.c_api.proofs.instance_exports.gate_instance_global.Goals as goal

pub returns-clause-answer : goal.returns-clause-answer
returns-clause-answer c =
    put_back (λ (old new : Live) (s : ℕ). AnswersGlobal old c.args.name.now c.args.value.now c.global-live.new.value s) c.take-live.result.0 c.args.instance.value c.global-live.result.0
    c.of.result.value c.global-live.result.1 c.of.result.status (c.take-live.ensures.value ∙ c.loose.ensures.value) (c.of.ensures.value ∙ c.fill.ensures.value) c.of.ensures.status
    c.global-live.ensures.answer
