use Rattle.std.proofs.Common.{take}
use Rattle.std.specs.List.{All}
use Rattle.wsyntax.specs.Modules.{module_shape, global_shape}
use Rattle.wsyntax.specs.Validation.ModuleContext.{imported_globals}
use Rattle.wsyntax.specs.Validation.Rules.{ConstantOf}
use Rattle.wcontext.proofs.rules.first_inconstant_global.Given as goal

abbrev pub invariant-loop-position : goal.invariant-loop-position
invariant-loop-position l = All (λ g. ConstantOf (imported_globals (module_shape l.«module»)) g.global_type.val_type (global_shape g).init) (take l.position l.«module».globals.items)
