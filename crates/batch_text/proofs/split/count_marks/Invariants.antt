-- The marks so far.
use Rattle.std.proofs.Common.{◌≡◌, count_by, take}
use Rattle.batch_text.specs.Reading.{is_mark}
use Rattle.batch_text.proofs.split.count_marks.Given as goal

abbrev pub invariant-loop-byte : goal.invariant-loop-byte
invariant-loop-byte l = l.count ≡ count_by (is_mark l.mark) (take l.byte-index l.text)
