use Rattle.std.proofs.Common.{sym, arith}
use Rattle.wnum.proofs.Counts.{ones_is}
use Rattle.wnum.proofs.word32.popcnt.Goals as goal

pub returns : goal.returns
returns c = sym (ones_is 32 c.args.x (omega arith))
