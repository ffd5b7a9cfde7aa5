use Rattle.std.proofs.Common.{refl}
use Rattle.wsyntax.specs.declared.module.ExportKind.TheVariants.{Function}
use Rattle.explain_rules.proofs.Imports.{import_held}
use Rattle.explain_rules.proofs.rules.spaces.imported_type.Goals as goal

pub returns : goal.returns
returns c = (
  refl,
  (c.in_ok-func.ensures, c.len.ensures),
  (refl, import_held c.args.module.now c.deref.result.now Function c.in_ok-func.func c.in_ok-position.position c.deref.ensures.value c.in_ok-position.ensures),
)
