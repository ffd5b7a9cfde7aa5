-- The lines so far, and their counts.
use Rattle.std.proofs.Common.{◌≡◌, take, string_bytes}
use Rattle.wsyntax.specs.Texts.Report.{call_lines, total_of}
use Rattle.batch_text.specs.Ends.{ends_of}
use Rattle.batch_text.specs.Totals.{tally, IsWithin}
use Rattle.batch_text.proofs.part.Part.of.Given as goal

abbrev pub invariant-loop-position : goal.invariant-loop-position
invariant-loop-position l = record {
  text : string_bytes l.text ≡ call_lines l.first (ends_of (take l.position l.lines));
  counts : tally l.total ≡ total_of (ends_of (take l.position l.lines));
  calls : l.total.calls ≡ l.position;
  within : IsWithin l.total;
}
