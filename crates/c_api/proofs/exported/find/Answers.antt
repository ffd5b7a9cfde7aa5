use Rattle.std.proofs.Common.{refl, inl, inr}
use Rattle.c_api.proofs.ExportedTypes.{is_typed}
use Rattle.c_api.proofs.exported.find.Goals as goal

pub returns-in-Some : goal.returns-in-Some
returns-in-Some c =
    let found = (c.export.ensures.some c.in-Some.kind c.in-Some.index).0 c.in-Some.is in
    let typed = is_typed c.args.accepted.now c.args.name.now c.in-Some.kind c.in-Some.index c.accepted_holds.ensures found in
    inl (record { item_name = c.args.name.now; kind = c.in-Some.kind; index = c.in-Some.index }, found, refl, (refl, rw c.context.ensures at c.of.ensures, typed))

pub returns-in-None : goal.returns-in-None
returns-in-None c = inr (c.export.ensures.none.0 (rw c.in-None.is refl), (refl, refl))
