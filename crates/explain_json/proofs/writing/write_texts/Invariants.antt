-- What stands so far is written.
use Rattle.std.proofs.Common.{◌≡◌, ◌++◌, take}
use Rattle.std.specs.Prelude.{flat_map}
use Rattle.explain_json.specs.Written.{text_tokens}
use Rattle.explain_json.proofs.writing.write_texts.Given as goal

abbrev pub invariant-loop-text : goal.invariant-loop-text
invariant-loop-text l = (l.writer.tokens ≡ l.initial.writer.tokens ++ flat_map text_tokens (take l.text-index l.texts)) × (l.writer.before ≡ l.initial.writer.before)
