use Rattle.std.proofs.Common.{sym, ◌∙◌, arith}
use Rattle.wnum.proofs.Counts.{ones_is}
use Rattle.wnum.proofs.word64.popcnt.Goals as goal

pub returns : goal.returns
returns c = c.from.ensures ∙ sym (ones_is 64 c.args.x (omega arith))
