use Rattle.std.proofs.Common.{Err, refl, ap}
use Rattle.wsyntax.specs.Modules.{module_shape}
use Rattle.wdecode.specs.Fronts.{with_segments}
use Rattle.wdecode.specs.declared.fault.Fault.{Fault}
use Rattle.refusal.specs.Refusals.{of_rules}
use Rattle.verdict.proofs.Parts.{late_rule}
use Rattle.verdict.proofs.RefusalSteps.{handed_on}
use Rattle.verdict.proofs.Rests.{least_of_whole, none_of_whole, segments_broken}
use Rattle.verdict.proofs.rest.judge_rest.Goals as goal

pub returns-in-Err-Malformed : goal.returns-in-Err-Malformed
returns-in-Err-Malformed c = λ m is. c.in-Err-Malformed.ensures.malformed (ap (λ (f : Fault). Err f) c.in-Err-Malformed.field-0-is) is.0 is.1

pub returns-in_err-check_rules_after_code : goal.returns-in_err-check_rules_after_code
returns-in_err-check_rules_after_code c =
    let front = c.args.head.now.front in
    let m = module_shape front.«module» in
    let ends = c.in-Ok.ensures.found in
    let fault = c.in_err-check_rules_after_code.field-0.0 in
    handed_on _ _ _ (of_rules fault) c.from_residual.ensures.1
    (late_rule front (with_segments m ends.0) fault (ends.0, ends.1, refl) (λ k e. let b = c.in_err-check_rules_after_code.ensures.broken k e in least_of_whole m ends.0 k b.0 b.1))

pub returns-then-segments : goal.returns-then-segments
returns-then-segments c =
    let m = module_shape c.args.head.now.front.«module» in
    let ends = c.in-Ok.ensures.found in
    (with_segments m ends.0, (ends.0, ends.1, refl), none_of_whole m ends.0 c.args.head.now.counts c.requires.counted c.in_ok-check_rules_after_code.ensures.valid (ends.2.0 c.if-segments.true))

pub returns-else-segments : goal.returns-else-segments
returns-else-segments c =
    let m = module_shape c.args.head.now.front.«module» in
    let ends = c.in-Ok.ensures.found in
    (with_segments m ends.0, (ends.0, ends.1, refl), segments_broken m ends.0 c.args.head.now.counts c.in-Ok.segments c.requires.counted c.in_ok-check_rules_after_code.ensures.valid ends.2 c.if-segments.false)
