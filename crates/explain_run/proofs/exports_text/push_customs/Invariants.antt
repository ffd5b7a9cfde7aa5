-- The custom sections so far are written.
use Rattle.std.proofs.Common.{◌≡◌, ◌++◌, string_bytes, take}
use Rattle.std.specs.Prelude.{flat_map}
use Rattle.explain_run.specs.Exports.{custom_line}
use Rattle.explain_run.proofs.exports_text.push_customs.Given as goal

abbrev pub invariant-loop-custom : goal.invariant-loop-custom
invariant-loop-custom l = string_bytes l.text ≡ string_bytes l.initial.text ++ flat_map custom_line (take l.custom-index l.customs)
