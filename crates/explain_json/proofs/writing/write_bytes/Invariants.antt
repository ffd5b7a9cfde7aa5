-- What stands so far is written.
use Rattle.std.proofs.Common.{◌≡◌, ◌++◌, take}
use Rattle.std.specs.Prelude.{flat_map}
use Rattle.explain_json.specs.Written.{byte_tokens}
use Rattle.explain_json.proofs.writing.write_bytes.Given as goal

abbrev pub invariant-loop-byte : goal.invariant-loop-byte
invariant-loop-byte l = (l.writer.tokens ≡ l.initial.writer.tokens ++ flat_map byte_tokens (take l.byte-index l.bytes)) × (l.writer.before ≡ l.initial.writer.before)
