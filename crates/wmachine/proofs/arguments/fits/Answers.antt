use Rattle.std.proofs.Common.{◌∙◌, ap}
use Rattle.std.specs.Prelude.{slice_get}
use Rattle.std.proofs.Math.Logic.{∥∥₁_map}
use Rattle.wsyntax.specs.Modules.{module_shape}
use Rattle.wsyntax.specs.FuncTypes.{func_type_of}
use Rattle.wmachine.proofs.Fitting.{fits_some, fits_none}
use Rattle.wmachine.proofs.arguments.fits.Goals as goal

pub returns-in-Some : goal.returns-in-Some
returns-in-Some c =
    let there = c.in-Some.ensures ∙ ap (λ x. slice_get x.context.functions c.args.function) c.context.ensures in
    let iff = fits_some (module_shape c.args.accepted.now.module) c.args.accepted.now.context c.args.function c.args.args.now (func_type_of c.in-Some.of_type) (∥∥₁_map c.accepted_holds.ensures (λ j. j.context)) there in
    rw c.have_types.ensures iff

pub returns-in-None : goal.returns-in-None
returns-in-None c =
    let there = c.in-None.ensures ∙ ap (λ x. slice_get x.context.functions c.args.function) c.context.ensures in
    (λ t. absurd cc, λ p. absurd (fits_none (module_shape c.args.accepted.now.module) c.args.accepted.now.context c.args.function c.args.args.now (∥∥₁_map c.accepted_holds.ensures (λ j. j.context)) there p))
