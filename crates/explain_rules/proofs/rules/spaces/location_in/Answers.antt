use Rattle.std.proofs.Common.{inl, refl}
use Rattle.explain_rules.proofs.Imports.{import_held}
use Rattle.explain_rules.proofs.rules.spaces.location_in.Goals as goal

pub returns-in_ok-import_of-in-None : goal.returns-in_ok-import_of-in-None
returns-in_ok-import_of-in-None c = inl (refl, import_held c.args.module.now c.deref.result.now c.args.kind c.args.index c.in_ok-import_of-in-None.field-0 c.deref.ensures.value c.in_ok-import_of-in-None.ensures)
