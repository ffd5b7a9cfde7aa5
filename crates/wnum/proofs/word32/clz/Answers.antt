use Rattle.std.proofs.Common.{sym, arith}
use Rattle.wnum.proofs.Counts.{leading_is}
use Rattle.wnum.proofs.word32.clz.Goals as goal

pub returns : goal.returns
returns c = sym (leading_is 32 c.args.x (omega arith))
