-- What is written are the values so far.
use Rattle.std.proofs.Common.{◌≡◌, ◌++◌, string_bytes, take}
use Rattle.wsyntax.specs.Texts.Report.{spaced_values}
use Rattle.batch_text.proofs.words.push_values.Given as goal

abbrev pub invariant-loop-position : goal.invariant-loop-position
invariant-loop-position l = string_bytes l.text ≡ string_bytes l.initial.text ++ spaced_values (take l.position l.values)
