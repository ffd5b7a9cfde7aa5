use Rattle.std.proofs.Common.{sym}
use Rattle.wcheck.proofs.TakenBack.{same_wholes}
use Rattle.wcheck.proofs.frames.are_same_lists.Goals as goal

pub returns-then-is_suffix : goal.returns-then-is_suffix
returns-then-is_suffix c =
    sym (same_wholes c.args.context.now.context.types c.args.a c.args.b c.whole-one.result c.whole-other.result c.whole-one.ensures.types c.whole-other.ensures.types c.whole-one.ensures.count c.whole-other.ensures.count c.if-one-other.true (c.is_suffix.ensures c.if-is_suffix.true))
