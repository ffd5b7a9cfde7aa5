-- What stands so far is written.
use Rattle.std.proofs.Common.{◌≡◌, ◌++◌, take}
use Rattle.std.specs.Prelude.{flat_map}
use Rattle.explain_json.specs.Written.{entry_tokens}
use Rattle.explain_json.proofs.writing.write_entries.Given as goal

abbrev pub invariant-loop-entry : goal.invariant-loop-entry
invariant-loop-entry l = (l.writer.tokens ≡ l.initial.writer.tokens ++ flat_map entry_tokens (take l.entry-index l.entries)) × (l.writer.before ≡ l.initial.writer.before)
