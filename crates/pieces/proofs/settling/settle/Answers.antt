use Rattle.std.proofs.Common.{◌≡◌, [], ap, sym, ◌∙◌, arith, subst, map}
use Rattle.crossbeam_deque.specs.Handles.{worker_view}
use Rattle.pieces.specs.Shares.{bag_view_of, IsFirst, count_of}
use Rattle.pieces.specs.Ledger.{Settles, log_of}
use Rattle.pieces.specs.Absorbing.{Absorbs}
use Rattle.pieces.proofs.DequeSteps.{learns}
use Rattle.pieces.proofs.MarkSteps.{knows}
use Rattle.pieces.proofs.Settles.{head_is, settles, bag_whole, mark_whole, first_of_crew}
use Rattle.pieces.proofs.settling.settle.Goals as goal

pub len_as-requires : goal.len_as-requires
len_as-requires c =
    let crew = c.requires.3 in
    let is = head_is _ c.args.shares.items c.remove-access.result c.remove-access.new.self.items crew.led c.remove-access.ensures.value c.remove-access.ensures.items in
    let whole = bag_whole _ _ _ _ c.remove-access.result c.remove-access.new.self.items crew is in
    let access = ap (λ h. (bag_view_of h).parts) c.in-Pops.is in
    let all = c.absorb_others.ensures.all.bag_parts in
    learns _ _ (omega arith)

pub load-requires : goal.load-requires
load-requires c =
    let crew = c.requires.3 in
    let is = head_is _ c.args.shares.items c.remove-access.result c.remove-access.new.self.items crew.led c.remove-access.ensures.value c.remove-access.ensures.items in
    let whole = mark_whole _ _ _ _ c.remove-access.result c.remove-access.new.self.items crew is in
    let all = c.absorb_others.ensures.all.mark_parts in
    let first = first_of_crew _ _ _ _ c.remove-access.result c.remove-access.new.self.items crew is in
    let led = subst (IsFirst c.requires.2) c.in-Pops.is first.0 in
    let table = ap (λ t. t.shared.table_id) c.deref-table.ensures ∙ led.0 in
    let words : c.deref-table.result.now.shared.table_id.words ≡ 1 = ap (λ t. t.words) table ∙ led.1 in
    (c.absorb_others.ensures.same.1 ∙ first.1.seat ∙ sym table, omega arith, knows _ _ _ (omega arith))

pub returns-clause-told : goal.returns-clause-told
returns-clause-told c =
    let crew = c.requires.3 in
    let is = head_is _ c.args.shares.items c.remove-access.result c.remove-access.new.self.items crew.led c.remove-access.ensures.value c.remove-access.ensures.items in
    let all : Absorbs (worker_view c.absorb_others.new.owner) c.absorb_others.new.seat.me.0 [] (bag_view_of c.remove-access.result.access) c.remove-access.result.seat.me.0 c.remove-access.new.self.items = rw (ap bag_view_of c.in-Pops.is) c.absorb_others.ensures.all in
    subst (λ ss. Settles (count_of c.args.shares.items) (map log_of ss.items)) (sym c.of-was.ensures)
    (settles _ _ _ c.args.shares.items c.remove-access.result c.remove-access.new.self.items _ _ crew is all c.len_as.ensures.rule.2 c.load.ensures.2.1)
