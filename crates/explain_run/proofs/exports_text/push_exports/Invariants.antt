-- The exports so far are written.
use Rattle.std.proofs.Common.{◌≡◌, ◌++◌, string_bytes, take}
use Rattle.std.specs.Prelude.{flat_map}
use Rattle.wsyntax.specs.Modules.{export_shape}
use Rattle.explain_run.specs.Exports.{export_line}
use Rattle.explain_run.proofs.exports_text.push_exports.Given as goal

abbrev pub invariant-loop-export : goal.invariant-loop-export
invariant-loop-export l = string_bytes l.text ≡ string_bytes l.initial.text ++ flat_map (λ e. export_line l.context.context (export_shape e)) (take l.export-index l.exports)
