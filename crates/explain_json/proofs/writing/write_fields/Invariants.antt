-- What stands so far is written.
use Rattle.std.proofs.Common.{◌≡◌, ◌++◌, take}
use Rattle.std.specs.Prelude.{flat_map}
use Rattle.explain_json.specs.Written.{field_tokens}
use Rattle.explain_json.proofs.writing.write_fields.Given as goal

abbrev pub invariant-loop-field : goal.invariant-loop-field
invariant-loop-field l = (l.writer.tokens ≡ l.initial.writer.tokens ++ flat_map field_tokens (take l.field-index l.fields)) × (l.writer.before ≡ l.initial.writer.before)
