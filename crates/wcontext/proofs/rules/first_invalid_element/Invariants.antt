use Rattle.std.proofs.Common.{take}
use Rattle.std.specs.List.{All}
use Rattle.wsyntax.specs.Modules.{module_shape, element_shape}
use Rattle.wsyntax.specs.Validation.Rules.{ElementValid}
use Rattle.wcontext.proofs.rules.first_invalid_element.Given as goal

abbrev pub invariant-loop-position : goal.invariant-loop-position
invariant-loop-position l = All (λ e. ElementValid (module_shape l.«module») (element_shape e)) (take l.position l.«module».elements)
