use Rattle.std.proofs.Common.{◌≡◌, ℕ, Option, refl, sym, ap, ◌∙◌, subst}
use Rattle.std.proofs.lemmas.Option.{slice_get_read, slice_get_past}
use Rattle.wsyntax.specs.declared.module.ExportKind.{ExportKind}
use Rattle.c_api.specs.CallsOn.{export_at}
use Rattle.c_api.specs.Instances.{AnswersCallOn}
use Rattle.c_api.specs.declared.live.Live.{Live}
use Rattle.c_api.proofs.ExportNumbers.{there_at, none_at}
use Rattle.c_api.proofs.PutBack.{put_back}
use Rattle.c_api.proofs.instance_exports.gate_instance_call_at.Goals.{in-Some, in-None}
use Rattle.c_api.proofs.instance_exports.gate_instance_call_at.Goals as goal

pub returns-clause-answer : goal.returns-clause-answer
returns-clause-answer c =
    let held = c.take-live.ensures.value ∙ c.loose.ensures.value in let of = c.deref.ensures ∙ ap (λ (l : Live). l.accepted.value) held in
    let a = c.deref.result.now in let number = c.args.number in let found = c.match-get.found in
    let is : found ≡ export_at c.args.instance.value.accepted.value number =
    elim c.match-get.branch [
      | in-Some w ↦
          let at = rw w.in-Some.is at c.get.ensures.lookup in
          let read = slice_get_read c.deref-2.result.now _ number w.in-Some.export.now refl at.3.0 at.1 in
          rw (w.found-is, ← of) (sym (there_at a number w.in-Some.export.now (rw (← c.module.ensures, ← c.deref-2.ensures.value) read)))
      | in-None w ↦
          let at = rw w.in-None.is at c.get.ensures.lookup in let past = slice_get_past c.deref-2.result.now number at.3 in
          rw (w.found-is, ← of) (sym (none_at a number (rw (← c.module.ensures, ← c.deref-2.ensures.value) past)))
    ] in
    subst (λ (f : Option (ExportKind × ℕ)). AnswersCallOn c.args.instance.value f c.args.args.now c.args.settings.now c.args.results.now c.call-live.new.results c.args.ended.now
    c.call-live.new.ended c.of.result.value c.of.result.status) is
    (put_back (λ (old new : Live) (s : ℕ). AnswersCallOn old found c.args.args.now c.args.settings.now c.args.results.now c.call-live.new.results c.args.ended.now c.call-live.new.ended new s)
    c.take-live.result.0 c.args.instance.value c.call-live.result.0 c.of.result.value c.call-live.result.1 c.of.result.status held (c.of.ensures.value ∙ c.fill.ensures.value)
    c.of.ensures.status c.call-live.ensures)
