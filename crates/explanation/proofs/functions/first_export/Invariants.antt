use Rattle.std.proofs.Common.{◌≡◌, drop}
use Rattle.std.specs.Prelude.{map}
use Rattle.wsyntax.specs.Modules.{export_shape}
use Rattle.explanation.specs.Functions.{first_name}
use Rattle.explanation.proofs.functions.first_export.Given as goal

abbrev pub invariant-loop-export : goal.invariant-loop-export
invariant-loop-export l = first_name l.func (map export_shape l.exports) ≡ first_name l.func (map export_shape (drop l.export-index l.exports))
