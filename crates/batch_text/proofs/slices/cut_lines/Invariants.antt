-- The text is cut so far.
use Rattle.std.proofs.Common.{length}
use Rattle.batch_text.specs.Slices.{slices_of}
use Rattle.batch_text.proofs.SlicedTexts.{CutSoFar}
use Rattle.batch_text.proofs.slices.cut_lines.Given as goal

abbrev pub invariant-lines : goal.invariant-lines
invariant-lines l = CutSoFar l.size l.text l.rest (slices_of l.slices.items)

abbrev pub decreases-lines : goal.decreases-lines
decreases-lines l = length l.rest
