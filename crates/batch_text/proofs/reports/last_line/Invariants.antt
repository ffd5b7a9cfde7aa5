-- The parts so far, whatever calls they all are of.
use Rattle.std.proofs.Common.{List, take}
use Rattle.wsyntax.specs.Texts.Report.{CallEnd}
use Rattle.batch_text.specs.Parts.{AreParts, parts_text}
use Rattle.batch_text.specs.Totals.{IsWithin}
use Rattle.batch_text.proofs.JoinedParts.{Joined}
use Rattle.batch_text.proofs.reports.last_line.Given as goal

abbrev pub invariant-loop-part : goal.invariant-loop-part
invariant-loop-part l = record {
  joined : (ends : List CallEnd) → AreParts 0 ends l.parts → Joined l.parts l.part-index (parts_text (take l.part-index l.parts)) l.total ends;
  within : IsWithin l.total;
}
