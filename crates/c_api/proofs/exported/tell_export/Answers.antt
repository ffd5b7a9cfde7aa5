use Rattle.std.proofs.Common.{refl}
use Rattle.std.proofs.lemmas.Option.{slice_get_read}
use Rattle.c_api.proofs.ExportedTypes.{tells}
use Rattle.c_api.proofs.exported.tell_export.Goals as goal

pub returns : goal.returns
returns c =
    let read = slice_get_read c.deref.result.now _ c.args.position c.in-Some.found.now refl c.in-Some.ensures.lookup.3.0 c.in-Some.ensures.lookup.1 in
    tells c.args.accepted.now c.args.position c.in-Some.found.now c.args.export.now c.of.result c.accepted_holds.ensures
    (rw (← c.module.ensures, ← c.deref.ensures.value) read) (rw c.context.ensures at c.of.ensures)
