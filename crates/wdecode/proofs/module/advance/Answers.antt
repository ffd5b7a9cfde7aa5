use Rattle.std.proofs.Common.{◌≡◌, false, arith}
use Rattle.std.proofs.lemmas.Result.{err_from_is_err_and}
use Rattle.wsyntax.specs.Modules.{module_shape}
use Rattle.wdecode.specs.declared.fault.Fault.TheVariants.{Malformed}
use Rattle.wdecode.specs.Held.{section_shape}
use Rattle.wdecode.specs.Fronts.{EndsProgress, stops}
use Rattle.wdecode.proofs.SectionList.{section_shorter, Follows, follows_next, follows_custom, not_read, not_ordered, misplaced}
use Rattle.wdecode.proofs.FrontLaws.{fault_is, goes_on, carried, early_next}
use Rattle.wdecode.proofs.module.advance.Goals as goal
use Rattle.wdecode.proofs.module.advance.Goals.{then-id-ne0+else-id-last, else-id-ne0}

pub returns-in_err-section-clause-malformed : goal.returns-in_err-section-clause-malformed
returns-in_err-section-clause-malformed c = λ h whole ends.
    let p = err_from_is_err_and c.from_residual.result c.from_residual.ensures.1 in
    let is = fault_is c.from_residual.result p.0 c.in_err-section.field-0.0 Malformed p.1 p.2 h in
    let goes : stops c.args.before_segments c.each.rest.now ≡ false = cc in
    not_read c.in_err-section.field-0.0 c.each.last (module_shape c.each.module) c.each.rest.now (goes_on c.args.before_segments c.each.rest.now goes) c.in_err-section.ensures is whole ((c.each.invariant.0 whole).0 ends)

pub returns-then-id-last-clause-malformed : goal.returns-then-id-last-clause-malformed
returns-then-id-last-clause-malformed c = λ _ whole ends.
    let s = section_shape c.in_ok-section.section in
    let goes : stops c.args.before_segments c.each.rest.now ≡ false = cc in
    not_ordered c.each.last (module_shape c.each.module) c.each.rest.now c.in_ok-section.after.now s (goes_on c.args.before_segments c.each.rest.now goes) c.in_ok-section.ensures (misplaced s c.each.last c.id-id.result c.id-id.ensures c.if-id-ne0.true c.if-id-last.true) whole ((c.each.invariant.0 whole).0 ends)

pub each-smaller : goal.each-smaller
each-smaller c = section_shorter c.each.rest.now c.in_ok-section.after.now (section_shape c.in_ok-section.section) c.in_ok-section.ensures

pub each-preserved : goal.each-preserved
each-preserved c =
    let s = section_shape c.in_ok-section.section in
    let last = c.each.last in
    let now = c.if-id-ne0.last in
    let id = c.id-id.result in
    let m = module_shape c.each.module in
    let n = module_shape c.with_section-module.result in
    let bytes = c.each.rest.now in
    let after = c.in_ok-section.after.now in
    let before = c.args.before_segments in
    let goes : stops before bytes ≡ false = cc in
    let follows : Follows last s now = elim c.if-id-ne0.branch as (λ _. Follows last s now) [
      | then-id-ne0+else-id-last w ↦ follows_next s last id now c.id-id.ensures w.if-id-ne0.true (omega arith) w.last-is
      | else-id-ne0 w ↦ follows_custom s last id now c.id-id.ensures (omega arith) w.last-is
    ] in (
      carried (EndsProgress c.args.start) last now m n bytes after s c.in_ok-section.ensures follows.0 follows.1 c.with_section-module.ensures c.each.invariant.0,
      λ wanted early. early_next before last now m n bytes after s c.in_ok-section.ensures follows.1 c.with_section-module.ensures goes wanted (c.each.invariant.1 wanted early),
    )
