use Rattle.std.proofs.Common.{take}
use Rattle.std.specs.List.{All}
use Rattle.std.proofs.Common.{◌<◌}
use Rattle.wsyntax.specs.Modules.{module_shape}
use Rattle.wsyntax.specs.Validation.Rules.{count_of}
use Rattle.wcontext.proofs.rules.first_missing_export.Given as goal

abbrev pub invariant-loop-position : goal.invariant-loop-position
invariant-loop-position l = All (λ e. e.index < count_of (module_shape l.«module») e.kind) (take l.position l.«module».exports.items)
