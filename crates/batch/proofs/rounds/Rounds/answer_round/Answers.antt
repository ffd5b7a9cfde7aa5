use Rattle.std.proofs.Common.{length, sym, ap, subst, arith}
use Rattle.std.specs.Io.KnownBytes.{Appends}
use Rattle.batch_text.specs.Ends.{ends_of}
use Rattle.batch_text.specs.Totals.{IsWithin}
use Rattle.batch.specs.Output.{AppendsFront}
use Rattle.batch.proofs.Streamed.{each_end, line_count, part_count, round_counts, round_text}
use Rattle.batch.proofs.rounds.Rounds.answer_round.Goals as goal

pub of-requires : goal.of-requires
of-requires g c =
    let count = line_count c.args.self.now.accepted.now c.args.self.now.settings c.args.calls.now c.in_ok-lines.lines.items c.in_ok-lines.ensures.ends in
    omega (arith, c.requires, ap length c.deref.ensures.value, count)

pub returns : goal.returns
returns g c =
    let lines = c.in_ok-lines.lines.items in
    let text = round_text c.args.progress.now.tally.calls lines c.deref.result.now c.in_ok-part.part c.text.result.now c.deref.ensures.value c.in_ok-part.ensures c.text.ensures in
    (ends_of lines, each_end c.args.self.now.accepted.now c.args.self.now.settings c.args.calls.now lines c.in_ok-lines.ensures.ends, subst (AppendsFront _ _) text c.in-Err.ensures)

pub add-requires-clause-room : goal.add-requires-clause-room
add-requires-clause-room g c =
    let lines = c.in_ok-lines.lines.items in
    let count = line_count c.args.self.now.accepted.now c.args.self.now.settings c.args.calls.now lines c.in_ok-lines.ensures.ends in
    let counted = part_count lines c.deref.result.now c.in_ok-part.part c.total-total.result.now c.args.progress.now.tally.calls c.deref.ensures.value c.in_ok-part.ensures c.total-total.ensures in
    omega (arith, c.requires, counted, count)

pub add-requires-clause-within : goal.add-requires-clause-within
add-requires-clause-within g c = (c.args.progress.now.within, subst IsWithin (sym c.total-total.ensures) c.in_ok-part.ensures.within)

pub returns-in-Ok : goal.returns-in-Ok
returns-in-Ok g c =
    let lines = c.in_ok-lines.lines.items in
    let text = round_text c.args.progress.now.tally.calls lines c.deref.result.now c.in_ok-part.part c.text.result.now c.deref.ensures.value c.in_ok-part.ensures c.text.ensures in
    let counted = round_counts c.args.progress.now.tally c.add.new.self c.total-total.result.now lines c.deref.result.now c.in_ok-part.part c.deref.ensures.value c.in_ok-part.ensures c.total-total.ensures c.add.ensures.calls c.add.ensures.tally in
    (ends_of lines, each_end c.args.self.now.accepted.now c.args.self.now.settings c.args.calls.now lines c.in_ok-lines.ensures.ends, counted, subst (Appends _ _) text c.in-Ok.ensures)
