use Rattle.std.proofs.Common.{sym, ◌∙◌, arith}
use Rattle.explain_rules.proofs.Imports.{import_counted, import_passed}
use Rattle.explain_rules.proofs.imported.import_of.Goals as goal
use Rattle.explain_rules.proofs.imported.import_of.Goals.{then-is_of_kind+else-left-eq0, else-is_of_kind}

pub loop-position-preserved : goal.loop-position-preserved
loop-position-preserved c = elim c.if-is_of_kind.branch [
  | then-is_of_kind+else-left-eq0 w ↦
      omega (arith, c.loop-position.invariant, w.left-is, w.if-left-eq0.false, import_counted c.args.imports.now c.args.kind c.loop-position.position _ c.loop-position-test.true (sym c.is_of_kind.ensures ∙ w.if-is_of_kind.true))
  | else-is_of_kind w ↦
      omega (arith, c.loop-position.invariant, w.left-is, import_passed c.args.imports.now c.args.kind c.loop-position.position _ c.loop-position-test.true (sym c.is_of_kind.ensures ∙ w.if-is_of_kind.false))
]
