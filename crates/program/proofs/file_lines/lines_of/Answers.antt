use Rattle.std.proofs.Common.{ℕ, List, [], Bor, Ok}
use Rattle.program.proofs.Rounds.{line_next}
use Rattle.program.proofs.file_lines.lines_of.Goals as goal

pub loop-i-preserved : goal.loop-i-preserved
loop-i-preserved c =
    let none : Bor (List ℕ) = record { ref_ptr = (0, 0); now = [] } in
    let (line, is, e) = c.in_ok-one.ensures in
    line_next c.args.names.now c.args.taken.now c.args.judged.now c.loop-i.i none c.index-taken-i.result (Ok tt) c.loop-i.text.items line c.push_line.new.text.items c.loop-i.file_outcome c.in_ok-one.one c.or-file_outcome.result
    c.requires.names c.requires.judged c.loop-i-test.true c.loop-i.invariant c.index-taken-i.is is e c.or-file_outcome.ensures
