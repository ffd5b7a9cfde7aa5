use Rattle.std.proofs.Common.{[], ◌∷◌, None}
use Rattle.std.proofs.lemmas.Bool.Decides.{Decides-eqb}
use Rattle.std.proofs.lemmas.Slice.Eq.{strip_prefix_is}
use Rattle.batch_text.proofs.Signs.{positive_none, positive_read}
use Rattle.batch_text.proofs.number.read_signed.Goals as goal

pub returns-in_ok-read_decimal-in-None : goal.returns-in_ok-read_decimal-in-None
returns-in_ok-read_decimal-in-None c =
    let (small, at) = c.in_ok-read_decimal-in-None.ensures in
    positive_read c.args.text.now c.in_ok-read_decimal-in-None.field-0 c.try_from.result c.ok.result small at c.try_from.ensures c.ok.ensures.value

pub returns-in_err-read_decimal-in-None : goal.returns-in_err-read_decimal-in-None
returns-in_err-read_decimal-in-None c =
    rw c.from_residual.ensures (positive_none c.args.text.now (strip_prefix_is Decides-eqb c.args.text.now (45 ∷ []) None c.in-None.ensures.cases) c.in_err-read_decimal-in-None.ensures)
