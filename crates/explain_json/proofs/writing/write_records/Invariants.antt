-- What stands so far is written.
use Rattle.std.proofs.Common.{◌≡◌, ◌++◌, take}
use Rattle.std.specs.Prelude.{flat_map}
use Rattle.explain_json.specs.Written.{record_tokens}
use Rattle.explain_json.proofs.writing.write_records.Given as goal

abbrev pub invariant-loop-record : goal.invariant-loop-record
invariant-loop-record l = (l.writer.tokens ≡ l.initial.writer.tokens ++ flat_map (λ r. record_tokens r.items) (take l.record-index l.records)) × (l.writer.before ≡ l.initial.writer.before)
