-- The imports so far are written.
use Rattle.std.proofs.Common.{◌≡◌, ◌++◌, string_bytes, take}
use Rattle.std.specs.Prelude.{flat_map}
use Rattle.wsyntax.specs.Modules.{import_shape}
use Rattle.explain_run.specs.Exports.{import_line}
use Rattle.explain_run.proofs.exports_text.push_imports.Given as goal

abbrev pub invariant-loop-import : goal.invariant-loop-import
invariant-loop-import l = string_bytes l.text ≡ string_bytes l.initial.text ++ flat_map (λ i. import_line l.types (import_shape i)) (take l.import-index l.imports)
