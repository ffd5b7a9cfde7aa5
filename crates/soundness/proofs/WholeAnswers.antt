-- The module without sections.
use Rattle.std.proofs.Common.{[], ◌∷◌, length, refl, ap, arith}
use Rattle.std.specs.Prelude.{codes, slice_index}
use Rattle.std.specs.Fmt.{digits}
use Rattle.std.proofs.lemmas.List.Elements.{All-nil}
use Rattle.wsyntax.specs.Binary.Shell.{Shell, header, empty_module}
use Rattle.wsyntax.specs.Validation.Rules.{NoneBroken}
use Rattle.wsyntax.specs.Validation.Verdict.{Accepted, Malformed, IsVerdict}
use Rattle.wsyntax.specs.Texts.Calls.{Unended, BadLine, Good, IsCalls}
use Rattle.wsyntax.specs.Texts.Report.{NoExport}
use Rattle.wsyntax.specs.Texts.Answer.{IsAnswer, missing}
use Rattle.soundness.specs.CallTexts.{calling}
use Rattle.soundness.specs.WholeAnswers.{AnswerExamples}
use Rattle.soundness.proofs.CallTexts.{first_bad, plain_call}
use Rattle.soundness.proofs.Joined.Alone.{none_broken}

empty_shell : Shell header empty_module
empty_shell = record { tail = []; sections = []; begins = refl; spelled = refl; ordered = tt; says = refl; paired = refl }

empty_unbroken : NoneBroken empty_module
empty_unbroken =
    none_broken empty_module (tt, (All-nil _, (All-nil _, (All-nil _, (All-nil _, (omega arith, (omega arith, (All-nil _, (All-nil _, ((λ i j d h k. absurd (omega arith)), ((λ f e. absurd cc), (All-nil _, (All-nil _, tt)))))))))))))

header_accepted : IsVerdict header Accepted
unfolding IsVerdict
header_accepted = (empty_module, record { small = omega arith; shell = empty_shell }, empty_unbroken, (λ k bytes l e. absurd (omega (arith, l))))

nothing_malformed : IsVerdict [] Malformed
unfolding IsVerdict
nothing_malformed = (omega arith, (λ m s. omega (arith, ap length s.begins)))

other_malformed : IsVerdict (0x00 ∷ 0x61 ∷ 0x73 ∷ 0x6D ∷ 0x02 ∷ 0x00 ∷ 0x00 ∷ 0x00 ∷ []) Malformed
unfolding IsVerdict
other_malformed = (omega arith, (λ m s. omega (arith, ap (λ bytes. slice_index bytes 4) s.begins)))

pub answer_examples : AnswerExamples
unfolding IsAnswer IsCalls digits
answer_examples = record {
  header_alone = header_accepted;
  no_bytes = nothing_malformed;
  other_version = other_malformed;
  refused = (Malformed, nothing_malformed, refl);
  bad_calls = (Accepted, header_accepted, (BadLine 1, (omega arith, first_bad (codes "f") (Unended (codes "f")) refl (λ h. h.1.1)), refl));
  no_calls = (Accepted, header_accepted, (Good [], (omega arith, omega arith, tt), (empty_module, [], [], (empty_shell, tt), tt, refl)));
  no_export = (
    Accepted,
    header_accepted,
    (
      Good (calling (codes "f") [] ∷ []),
      (omega arith, omega arith, ((plain_call (codes "f") [] refl tt, refl), tt)),
      (empty_module, [], NoExport ∷ [], (empty_shell, tt), (missing (λ e h. absurd (omega (arith, h.1))), tt), refl),
    ),
  );
}
