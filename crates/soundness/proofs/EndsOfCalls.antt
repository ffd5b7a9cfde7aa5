-- How calls end on their own.
use Rattle.std.proofs.Common.{zero, suc, [], ◌∷◌, refl, ap, ◌∙◌, arith}
use Rattle.std.specs.Prelude.{codes, slice_index}
use Rattle.wsyntax.specs.Modules.{ExportShape}
use Rattle.wsyntax.specs.declared.value.Value.TheVariants.{I32 as V32}
use Rattle.wsyntax.specs.Execution.Start.{start_refusal}
use Rattle.wsyntax.specs.Execution.Step.{step}
use Rattle.wsyntax.specs.Execution.Ends.{Values}
use Rattle.wsyntax.specs.Texts.Answer.{IsMissing, Names, EndsOn, by_start, in_call, missing, other_kind, misfit, not_started, no_memory, ran}
use Rattle.soundness.specs.CallTexts.{calling}
use Rattle.soundness.specs.StartFirst.{gives, adds_five, instance_of, with_global, fuel}
use Rattle.soundness.specs.EndsOfCalls.{exporter, EndExamples}
use Rattle.soundness.proofs.StartFirst.{first, behind}

-- the second letter of each name is `e` or `u`
no_got : IsMissing exporter (codes "got")
no_got e (zero, l, is) same = omega (arith, ap (λ n. slice_index n 1) (ap (λ (x : ExportShape). x.item_name) is ∙ same))
no_got e (suc zero, l, is) same = omega (arith, ap (λ n. slice_index n 1) (ap (λ (x : ExportShape). x.item_name) is ∙ same))
no_got e (suc (suc k), l, is) same = absurd (omega (arith, l))

get : Names exporter (calling (codes "get") []) 1 gives
get = record { exported = (0, omega arith, refl); typed = refl }

-- the start function and the call after it
get_runs : EndsOn exporter (instance_of adds_five) (fuel 10) 1 [] (Values (V32 7 ∷ [])) 2
unfolding step
get_runs = in_call {k = 1} {n = 1} {left = 9} {s = with_global 7} {after = with_global 7} (by_start refl (first adds_five 10)) refl (behind (with_global 7) 9)

pub end_examples : EndExamples
unfolding start_refusal
end_examples = record {
  no_export = missing no_got;
  not_a_function = other_kind (1, omega arith, refl) refl (λ e. absurd cc);
  bad_arguments = misfit {f = 1} {sig = gives} (record { exported = (0, omega arith, refl); typed = refl }) (λ e. absurd cc);
  not_started = not_started get refl refl;
  no_memory = no_memory get refl refl tt;
  ran = ran {i = instance_of adds_five} get refl refl (λ h. h) (record { same_types = refl; each = (refl, refl, refl, (refl, refl, refl, tt)) }) get_runs;
}
