use Rattle.std.proofs.Common.{subst}
use Rattle.std.specs.List.{All}
use Rattle.wsyntax.specs.Validation.Rules.{WithinRange}
use Rattle.wcontext.proofs.Firsts.{each_right, right_read}
use Rattle.wcontext.proofs.rules.first_unlimited_memory.Goals as goal

pub loop-index-preserved : goal.loop-index-preserved
loop-index-preserved c = right_read (WithinRange 65536) c.deref-limits-items.result.now _ c.loop-index.index _ _ c.deref-limits-items.ensures.value c.loop-index-test.true c.are_within_pages.ensures c.if-not-are_within_pages.false c.loop-index.invariant

pub returns : goal.returns
returns c = subst (All (WithinRange 65536)) c.requires.memories (each_right (WithinRange 65536) c.deref-limits-items.result.now _ c.loop-index.index c.deref-limits-items.ensures.value c.loop-index-test.false c.loop-index.invariant)
