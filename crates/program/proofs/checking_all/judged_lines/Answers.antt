use Rattle.program.proofs.Rounds.{judged_length}
use Rattle.program.proofs.checking_all.judged_lines.Goals as goal

pub lines_of-requires-clause-judged : goal.lines_of-requires-clause-judged
lines_of-requires-clause-judged g c = rw c.as_slice.ensures.value (judged_length c.args.taken.now c.in_ok-judged.judged.items c.in_ok-judged.ensures)
