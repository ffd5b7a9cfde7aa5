use Rattle.std.proofs.Common.{IsTrue, ◌↔◌, [], ◌∷◌, ◌++◌, All, ◌∙◌}
use Rattle.wsyntax.specs.Modules.{DataShape, data_shape}
use Rattle.wsyntax.specs.Binary.Production.{times_at}
use Rattle.wsyntax.specs.Binary.Sections.{data_segment}
use Rattle.wdecode.proofs.Loop.{goes_on}
use Rattle.wdecode.proofs.FrontLaws.{passes_on, passes_no_more}
use Rattle.wdecode.proofs.rule.each_passes.Goals as goal
use Rattle.wdecode.proofs.rule.each_passes.Goals.{then-passes, else-passes}

pub each-preserved : goal.each-preserved
each-preserved g c =
    let i = c.each.invariant in
    let n = data_shape c.in_ok-data.data in
    let count = c.in_ok-count.count in
    let P : DataShape → Type 0 = g.R.SegmentRule.holds c.args.rule.now in
    let now = c.if-passes.passes in
    let passes : IsTrue now ↔ All P (i.0 ++ n ∷ []) = elim c.if-passes.branch as (λ _. IsTrue now ↔ All P (i.0 ++ n ∷ [])) [
      | then-passes w ↦ passes_on P i.0 n c.each.passes now w.accepts-passes.result w.if-passes.true w.accepts-passes.ensures w.passes-is i.2
      | else-passes w ↦ passes_no_more P i.0 n c.each.passes now w.if-passes.false (w.passes-is ∙ w.if-passes.false) i.2
    ] in
    (i.0 ++ n ∷ [], goes_on data_segment.read i.0 count c.each.counter c.each.rest.now n c.in_ok-data.after.now (times_at data_segment.read count c.in_ok-count.rest.now) c.each-test.true c.in_ok-data.ensures i.1, passes)
