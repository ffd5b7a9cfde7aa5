use Rattle.std.proofs.Common.{◌≢◌, ◌+◌, ◌-◌, ◌*◌, ◌≤◌, ℕ, min, length, sym, subst, arith}
use Rattle.std.proofs.lemmas.List.{length-map}
use Rattle.std.proofs.Math.Nat.{min-le_left, min-le_right}
use Rattle.verdict.proofs.Groups.{one_more}
use Rattle.verdict.proofs.Parts.{rest_passed, rest_part, body_part, group_part}
use Rattle.verdict.proofs.jobs.ModulePartsJob.run.Goals as goal

pub loop-position-preserved : goal.loop-position-preserved
loop-position-preserved g c =
    let old = c.loop-position.invariant in
    record {
      outside = c.in_ok-judge_at.ensures.outside;
      early_hold = old.early_hold;
      passed = one_more _ _ _ _ _ _ old.passed c.in_ok-judge_at.ensures.verdict;
    }

pub returns-in_err-judge_rest-clause-answer : goal.returns-in_err-judge_rest-clause-answer
returns-in_err-judge_rest-clause-answer g c =
    rest_part c.args.self.now.head.now c.args.self.now.size c.args.index c.from_residual.result c.in_err-judge_rest.field-0.0 c.from_residual.ensures.1 (omega (arith, c.if-index-eq0.true)) c.in_err-judge_rest.ensures

pub returns-then-index-eq0-clause-answer : goal.returns-then-index-eq0-clause-answer
returns-then-index-eq0-clause-answer g c = (rest_passed c.args.self.now.head.now c.args.self.now.size c.args.index (omega (arith, c.if-index-eq0.true)) c.in_ok-judge_rest.ensures, tt)

pub returns-in_err-judge_at-clause-answer : goal.returns-in_err-judge_at-clause-answer
returns-in_err-judge_at-clause-answer g c =
    let h = c.args.self.now.head.now in
    let size = c.args.self.now.size in
    let ne : c.args.index ≢ 0 = omega (arith, c.if-index-eq0.false) in
    let items = h.front.«module».bodies.items in
    let count = length-map items (λ b. b.now) in
    let most = min-le_left size (length items - (c.args.index - 1) * size) in
    let left = min-le_right size (length items - (c.args.index - 1) * size) in
    body_part h size c.args.index c.loop-position.position c.from_residual-in_err-judge_at.result c.in_err-judge_at.field-0.0 c.from_residual-in_err-judge_at.ensures.1 ne
    record { from = omega (arith, c.loop-position.auto.position); to = omega (arith, most, c.loop-position-test.true); there = omega (arith, count, left, c.loop-position.auto.position, c.loop-position-test.true) }
    c.loop-position.invariant.passed
    c.in_err-judge_at.ensures.verdict

pub returns-clause-answer : goal.returns-clause-answer
returns-clause-answer g c =
    let ne : c.args.index ≢ 0 = omega (arith, c.if-index-eq0.false) in
    let h = c.args.self.now.head.now in
    let size = c.args.self.now.size in
    let first = (c.args.index - 1) * size in
    let count = length-map h.front.«module».bodies.items (λ b. b.now) in
    let whole = subst (λ (n : ℕ). first + min size (n - first) ≤ c.loop-position.position) (sym count)
    (omega (arith, c.loop-position-test.false)) in
    (group_part h size c.args.index c.loop-position.position ne whole c.loop-position.invariant.passed, tt)
