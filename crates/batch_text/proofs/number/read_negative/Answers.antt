use Rattle.std.proofs.Common.{◌∙◌, ap, decimal}
use Rattle.batch_text.proofs.Signs.{negative_none, negative_zero, negative_read}
use Rattle.batch_text.proofs.number.read_negative.Goals as goal

pub returns-in_err-magnitude : goal.returns-in_err-magnitude
returns-in_err-magnitude c = rw c.from_residual.ensures (negative_none c.args.digits.now c.in_err-magnitude.ensures)

pub returns-then-magnitude-eq0 : goal.returns-then-magnitude-eq0
returns-then-magnitude-eq0 c = let (small, at) = c.in_ok-magnitude.ensures in negative_zero c.args.digits.now (at ∙ ap decimal c.if-magnitude-eq0.true)

pub returns : goal.returns
returns c = let (small, at) = c.in_ok-magnitude.ensures in negative_read c.args.digits.now c.in_ok-magnitude.magnitude _ small at c.if-magnitude-eq0.false c.checked_sub_unsigned.ensures
