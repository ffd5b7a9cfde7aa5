use Rattle.std.proofs.Common.{subst}
use Rattle.std.specs.List.{All}
use Rattle.wsyntax.specs.Validation.Rules.{InOrder}
use Rattle.wsyntax.specs.declared.module.Table.{Table}
use Rattle.wcontext.proofs.Firsts.{each_right, right_read}
use Rattle.wcontext.proofs.rules.first_unordered_table.Goals as goal

pub loop-index-preserved : goal.loop-index-preserved
loop-index-preserved c = right_read (λ (t : Table). InOrder t.limits) c.deref-table-items.result.now _ c.loop-index.index _ _ c.deref-table-items.ensures.value c.loop-index-test.true c.are_in_order.ensures c.if-not-are_in_order.false c.loop-index.invariant

pub returns : goal.returns
returns c = subst (All (λ (t : Table). InOrder t.limits)) c.requires.tables (each_right (λ (t : Table). InOrder t.limits) c.deref-table-items.result.now _ c.loop-index.index c.deref-table-items.ensures.value c.loop-index-test.false c.loop-index.invariant)
