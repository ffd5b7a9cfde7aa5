use Rattle.std.proofs.Common.{sym, ◌∙◌}
use Rattle.wnum.proofs.Counts.{trailing_is}
use Rattle.wnum.proofs.word64.ctz.Goals as goal

pub returns : goal.returns
returns c = c.from.ensures ∙ sym (trailing_is 64 c.args.x)
