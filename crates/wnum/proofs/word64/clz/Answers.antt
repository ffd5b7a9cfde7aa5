use Rattle.std.proofs.Common.{sym, ◌∙◌, arith}
use Rattle.wnum.proofs.Counts.{leading_is}
use Rattle.wnum.proofs.word64.clz.Goals as goal

pub returns : goal.returns
returns c = c.from.ensures ∙ sym (leading_is 64 c.args.x (omega arith))
