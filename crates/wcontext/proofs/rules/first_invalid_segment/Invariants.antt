use Rattle.std.proofs.Common.{take}
use Rattle.std.specs.List.{All}
use Rattle.wsyntax.specs.Modules.{module_shape, data_shape}
use Rattle.wsyntax.specs.Validation.Rules.{DataValid}
use Rattle.wcontext.proofs.rules.first_invalid_segment.Given as goal

abbrev pub invariant-loop-position : goal.invariant-loop-position
invariant-loop-position l = All (λ d. DataValid (module_shape l.«module») (data_shape d)) (take l.position l.«module».«data».items)
