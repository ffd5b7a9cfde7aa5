use Rattle.wcheck.proofs.Alignments.{power_order}
use Rattle.wcheck.proofs.rule.is_aligned.Goals as goal

pub returns : goal.returns
returns c = power_order c.args.align c.args.natural
