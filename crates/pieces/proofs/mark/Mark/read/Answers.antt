use Rattle.std.specs.Prelude.{Option, None}
use Rattle.pieces.specs.History.{IsAtMost, register}
use Rattle.std.proofs.Common.{subst, ◌≡◌, ap, sym, ◌∙◌, arith}
use Rattle.pieces.proofs.MarkSteps.{reads}
use Rattle.pieces.proofs.Registers.{read_is, read_falls, reading_some, reading_none}
use Rattle.pieces.proofs.mark.Mark.read.Goals as goal

pub load-found-requires : goal.load-found-requires
load-found-requires c =
    let e = c.deref-table.ensures in
    let one : c.deref-table.result.now.shared.table_id.words ≡ 1 = ap (λ t. t.shared.table_id.words) e ∙ c.args.self.now.one_word in
    (c.requires.seat ∙ ap (λ t. t.shared.table_id) (sym e), omega arith, reads _ _ _ c.requires.part)

pub returns-then-found-clause-is : goal.returns-then-found-clause-is
returns-then-found-clause-is c =
    sym (reading_some c.load-found.result (omega arith)) ∙ read_is c.args.share.now.seat.me.0 c.load-found.new.seat.me.0 _ c.load-found.ensures.2.0

pub returns-then-found-clause-falls : goal.returns-then-found-clause-falls
returns-then-found-clause-falls c =
    subst (λ (r : Option _). IsAtMost r (register None c.args.share.now.seat.me.0.seen)) (reading_some c.load-found.result (omega arith))
    (read_falls c.args.share.now.seat.me.0 c.load-found.new.seat.me.0 _ c.load-found.ensures.2.0)

pub returns-else-found-clause-is : goal.returns-else-found-clause-is
returns-else-found-clause-is c =
    sym (reading_none c.load-found.result (omega arith)) ∙ read_is c.args.share.now.seat.me.0 c.load-found.new.seat.me.0 _ c.load-found.ensures.2.0

pub returns-else-found-clause-falls : goal.returns-else-found-clause-falls
returns-else-found-clause-falls c =
    subst (λ (r : Option _). IsAtMost r (register None c.args.share.now.seat.me.0.seen)) (reading_none c.load-found.result (omega arith))
    (read_falls c.args.share.now.seat.me.0 c.load-found.new.seat.me.0 _ c.load-found.ensures.2.0)
