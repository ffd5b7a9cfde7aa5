use Rattle.std.specs.Prelude.{Some, None}
use Rattle.pieces.specs.History.{IsAtMost, register}
use Rattle.std.proofs.Common.{ℕ, subst, ◌≡◌, ap, sym, ◌∙◌, arith}
use Rattle.pieces.proofs.MarkSteps.{lowers}
use Rattle.pieces.proofs.Registers.{lowered_low, lowered_falls}
use Rattle.pieces.proofs.mark.Mark.lower.Goals as goal

pub fetch_min-requires : goal.fetch_min-requires
fetch_min-requires c =
    let e = c.deref-table.ensures in
    let one : c.deref-table.result.now.shared.table_id.words ≡ 1 = ap (λ t. t.shared.table_id.words) e ∙ c.args.self.now.one_word in
    (c.requires.seat ∙ ap (λ t. t.shared.table_id) (sym e), omega arith, lowers _ _ _ _ c.requires.part (omega arith))

pub returns-clause-low : goal.returns-clause-low
returns-clause-low c =
    let e : c.from.result ≡ c.args.index = omega arith in
    subst (λ (i : ℕ). IsAtMost (register None c.fetch_min.new.seat.me.0.seen) (Some i)) e
    (lowered_low c.args.share.now.seat.me.0 c.fetch_min.new.seat.me.0 _ c.fetch_min.ensures.2.0)

pub returns-clause-falls : goal.returns-clause-falls
returns-clause-falls c = lowered_falls c.args.share.now.seat.me.0 c.fetch_min.new.seat.me.0 _ c.fetch_min.ensures.2.0
