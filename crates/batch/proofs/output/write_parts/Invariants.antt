-- The texts of the parts so far are appended.
use Rattle.std.proofs.Common.{take}
use Rattle.std.specs.Io.KnownBytes.{Appends}
use Rattle.batch_text.specs.Parts.{parts_text}
use Rattle.batch.proofs.output.write_parts.Given as goal

abbrev pub invariant-loop-part : goal.invariant-loop-part
invariant-loop-part g l = Appends (g.W.Write.contents l.initial.out) (g.W.Write.contents l.out) (parts_text (take l.part-index l.parts))
