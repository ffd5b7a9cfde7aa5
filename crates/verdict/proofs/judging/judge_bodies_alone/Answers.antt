use Rattle.std.proofs.Common.{map, sym, ◌∙◌}
use Rattle.verdict.specs.Judged.{IsFirstBody}
use Rattle.verdict.proofs.CheckedBodies.{checked_more}
use Rattle.verdict.proofs.Groups.{refusal_there, pass_more}
use Rattle.verdict.proofs.KeptGroups.{first_body}
use Rattle.verdict.proofs.RefusalSteps.{handed_on}
use Rattle.verdict.proofs.judging.judge_bodies_alone.Goals as goal

pub loop-position-preserved : goal.loop-position-preserved
loop-position-preserved g c =
    let old = c.loop-position.invariant in
    let same = c.imported_functions-imported.ensures.count in
    let found = c.in_ok-checked.ensures.verdict in
    let items = c.in_ok-push.ensures.items in
    record {
      outside = c.in_ok-checked.ensures.outside ∙ old.outside;
      passed = pass_more _ _ _ _ old.passed (sym (refusal_there _ _ _ _ _ c.args.bodies.now _ old.outside same c.loop-position-test.true) ∙ found.0);
      checked = rw items (checked_more _ _ _ _ _ c.args.bodies.now _ _ _ old.outside same c.loop-position-test.true found.1 old.checked);
    }

pub returns-in_err-checked-clause-verdict : goal.returns-in_err-checked-clause-verdict
returns-in_err-checked-clause-verdict g c =
    let old = c.loop-position.invariant in
    let x = c.in_err-checked.field-0.0 in
    handed_on _ (IsFirstBody c.args.context.now.context c.args.context.now.imported (map (λ b. b.now) c.args.bodies.now)) _ x c.from_residual-in_err-checked.ensures.1
    (first_body _ _ _ _ c.loop-position.position c.args.bodies.now _ x old.outside c.imported_functions-imported.ensures.count c.loop-position-test.true old.passed c.in_err-checked.ensures.verdict)
