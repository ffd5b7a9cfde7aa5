use Rattle.std.proofs.Common.{sym}
use Rattle.wnum.proofs.Counts.{trailing_is}
use Rattle.wnum.proofs.word32.ctz.Goals as goal

pub returns : goal.returns
returns c = sym (trailing_is 32 c.args.x)
