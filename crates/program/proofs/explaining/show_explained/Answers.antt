use Rattle.std.specs.Prelude.{string_bytes}
use Rattle.explanation.specs.Told.{verdict_told}
use Rattle.program.proofs.Explained.{begins_told, told_of, explained}
use Rattle.program.proofs.explaining.show_explained.Goals as goal

pub printed-requires : goal.printed-requires
printed-requires g c =
    begins_told c.args.bytes.now c.args.calls.now (string_bytes c.in-Ok.told.text) c.in-Ok.told.refused (verdict_told c.in-Ok.told.explanation) c.in-Ok.ensures

pub returns-in-Ok-printed : goal.returns-in-Ok-printed
returns-in-Ok-printed g c =
    explained c.args.json c.args.bytes.now c.args.calls.now c.in-Ok-printed.text.items c.as_slice.result.now (g.O.Write.contents c.args.out.now) (g.O.Write.contents c.show.new.out)
    c.status_of_refused-status.result c.show.result
    (told_of c.args.json c.args.bytes.now c.args.calls.now (string_bytes c.in-Ok.told.text) c.in-Ok-printed.text.items c.in-Ok.told.refused (verdict_told c.in-Ok.told.explanation)
    c.status_of_refused-status.result c.in-Ok.ensures c.in-Ok-printed.ensures c.status_of_refused-status.ensures) c.as_slice.ensures.value c.show.ensures
