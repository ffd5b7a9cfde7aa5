-- The lines so far.
use Rattle.std.proofs.Common.{map, take}
use Rattle.program.specs.FileLines.{AreTakenLines}
use Rattle.program.proofs.file_lines.lines_of.Given as goal

abbrev pub invariant-loop-i : goal.invariant-loop-i
invariant-loop-i l = AreTakenLines (take l.i (map (λ n. n.now) l.names)) (take l.i l.taken) (take l.i l.judged) l.text.items l.file_outcome
