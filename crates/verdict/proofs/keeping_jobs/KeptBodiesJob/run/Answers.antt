use Rattle.std.proofs.Common.{◌≡◌, true, ◌-◌, ◌*◌, length, map, arith}
use Rattle.std.specs.Prelude.{is_ok}
use Rattle.std.proofs.lemmas.List.{length-map, length_push}
use Rattle.std.proofs.Math.Nat.{min-le_left, min-le_right}
use Rattle.verdict.specs.Groups.{GroupRefused}
use Rattle.verdict.proofs.Groups.{one_more, group_refused}
use Rattle.verdict.proofs.KeptGroups.{stand_more, whole_group}
use Rattle.verdict.proofs.RefusalSteps.{job_refused}
use Rattle.verdict.proofs.keeping_jobs.KeptBodiesJob.run.Goals as goal

pub loop-position-preserved : goal.loop-position-preserved
loop-position-preserved g c =
    let old = c.loop-position.invariant in
    let found = c.in_ok-checked.ensures.verdict in
    let kept : is_ok c.push.result ≡ true = c.if-is_err.ensures.negation in
    let items = rw kept at c.push.ensures.items in
    let long = length_push c.loop-position.kept.items c.in_ok-checked.checked in
    record {
      outside = c.in_ok-checked.ensures.outside;
      passed = one_more _ _ _ _ _ _ old.passed found.0;
      count = rw items (let n = old.count in omega (arith, long, n));
      each = rw items (stand_more _ _ _ _ _ _ _ old.each old.count found.1);
    }

pub returns-in_err-checked-clause-answer : goal.returns-in_err-checked-clause-answer
returns-in_err-checked-clause-answer g c =
    let j = c.args.self.now in
    let n = length-map j.bodies.now (λ b. b.now) in
    let most = min-le_left j.size (length j.bodies.now - c.args.index * j.size) in
    let left = min-le_right j.size (length j.bodies.now - c.args.index * j.size) in
    job_refused _ (GroupRefused j.context.now.context j.imported (map (λ b. b.now) j.bodies.now) j.size c.args.index) c.from_residual.result c.in_err-checked.field-0.0 c.from_residual.ensures.1
    (group_refused j.context.now.context j.imported (map (λ b. b.now) j.bodies.now) j.size c.args.index c.loop-position.position c.in_err-checked.field-0.0
    record {
      from = omega (arith, c.loop-position.auto.position);
      to = omega (arith, most, c.loop-position-test.true);
      there = omega (arith, n, left, c.loop-position.auto.position, c.loop-position-test.true);
    }
    c.loop-position.invariant.passed
    c.in_err-checked.ensures.verdict)

pub returns-clause-answer : goal.returns-clause-answer
returns-clause-answer g c =
    let old = c.loop-position.invariant in
    let n = length-map c.args.self.now.bodies.now (λ b. b.now) in
    whole_group _ _ _ _ _ _ _ _ n (omega (arith, c.loop-position-test.false)) old.passed old.count old.each
