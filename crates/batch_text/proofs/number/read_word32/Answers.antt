use Rattle.std.proofs.Common.{sym, ◌∙◌}
use Rattle.batch_text.proofs.SignedWords.{word32_past}
use Rattle.batch_text.proofs.number.read_word32.Goals as goal

pub returns-in_err-number : goal.returns-in_err-number
returns-in_err-number c =
    let (fits, at) = c.in_ok-read_signed.ensures in
    rw c.from_residual-in_err-number.ensures (word32_past c.args.text.now c.in_ok-read_signed.field-0 c.try_from.result fits at c.try_from.ensures (sym c.ok.ensures.value ∙ c.in_err-number.was))
