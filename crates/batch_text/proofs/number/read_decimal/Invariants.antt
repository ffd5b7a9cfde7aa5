use Rattle.batch_text.proofs.Decimals.{IsReadTo}
use Rattle.batch_text.proofs.number.read_decimal.Given as goal

abbrev pub invariant-loop-digit : goal.invariant-loop-digit
invariant-loop-digit l = IsReadTo l.digits l.digit-index l.number
