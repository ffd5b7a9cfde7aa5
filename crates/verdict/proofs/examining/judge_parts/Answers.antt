use Rattle.verdict.specs.Parts.{IsFirstPart}
use Rattle.refusal.specs.Refusals.{of_run}
use Rattle.verdict.proofs.Parts.{all_passed, first_part}
use Rattle.verdict.proofs.RefusalSteps.{handed_on}
use Rattle.verdict.proofs.examining.judge_parts.Goals as goal

pub returns-in_err-try_all : goal.returns-in_err-try_all
returns-in_err-try_all g c =
    handed_on _ (IsFirstPart c.args.head.now) _ (of_run c.in_err-try_all.field-0.0) c.from_residual-in_err-try_all.ensures.1
    (first_part c.args.head.now c.groups_for-size.result.0 _ c.in_err-try_all.field-0.0 c.groups_for-size.ensures.sized c.in_err-try_all.ensures)

pub returns : goal.returns
returns g c = all_passed c.args.head.now c.groups_for-size.result.0 _ _ _ c.groups_for-size.ensures.sized c.count.ensures c.in_ok-try_all.ensures
