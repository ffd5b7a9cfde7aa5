use Rattle.std.proofs.Common.{map}
use Rattle.verdict.specs.Judged.{IsFirstBody}
use Rattle.refusal.specs.Refusals.{of_run}
use Rattle.verdict.proofs.KeptGroups.{groups_passed, groups_kept, group_stopped}
use Rattle.verdict.proofs.RefusalSteps.{handed_on}
use Rattle.verdict.proofs.judging.judge_bodies.Goals as goal

pub returns-in_err-groups-clause-verdict : goal.returns-in_err-groups-clause-verdict
returns-in_err-groups-clause-verdict g c =
    handed_on _ (IsFirstBody c.args.context.now.context c.args.context.now.imported (map (λ b. b.now) c.args.bodies.now)) _ (of_run c.in_err-groups.field-0.0) c.from_residual-in_err-groups.ensures.1
    (group_stopped _ _ _ _ _ c.args.bodies.now c.in_err-groups.field-0.0 c.imported_functions-imported.ensures.count c.groups_for-size.ensures.sized c.in_err-groups.ensures)

pub returns-clause-verdict : goal.returns-clause-verdict
returns-clause-verdict g c = groups_passed _ _ _ _ _ _ _ _ c.imported_functions-imported.ensures.count c.groups_for-size.ensures.sized c.div_ceil.ensures c.in_ok-groups.ensures

pub returns-clause-bodies : goal.returns-clause-bodies
returns-clause-bodies g c = groups_kept _ _ _ _ _ _ _ _ _ _ c.imported_functions-imported.ensures.count c.groups_for-size.ensures.sized c.div_ceil.ensures c.in_ok-groups.ensures c.in_ok-joined.ensures
