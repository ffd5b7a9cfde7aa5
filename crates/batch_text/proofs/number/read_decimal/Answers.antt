use Rattle.std.proofs.Common.{refl}
use Rattle.batch_text.proofs.Decimals.{none_by_front, none_by_digit, read_more, read_all}
use Rattle.batch_text.proofs.number.read_decimal.Goals as goal

pub returns-then-not-begins_as_printed : goal.returns-then-not-begins_as_printed
returns-then-not-begins_as_printed c = none_by_front c.args.digits.now (λ printed. let t = c.begins_as_printed.ensures.1 printed in cc)

pub returns-in_default : goal.returns-in_default
returns-in_default c =
    none_by_digit c.args.digits.now c.loop-digit.digit-index c.loop-digit.number _ c.loop-digit-test.true refl c.loop-digit.invariant.1 c.in_default.ensures

pub loop-digit-preserved : goal.loop-digit-preserved
loop-digit-preserved c =
    read_more c.args.digits.now c.loop-digit.digit-index c.loop-digit.number _ c.in-Some.longer c.loop-digit-test.true refl c.loop-digit.invariant c.in-Some.ensures

pub returns : goal.returns
returns c =
    read_all c.args.digits.now c.loop-digit.digit-index c.loop-digit.number c.loop-digit-test.false (c.begins_as_printed.ensures.0 cc) c.loop-digit.invariant
