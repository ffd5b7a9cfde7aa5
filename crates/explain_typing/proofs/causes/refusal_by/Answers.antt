use Rattle.std.proofs.Common.{ap}
use Rattle.wsyntax.specs.Modules.{decoded_as}
use Rattle.explain_typing.proofs.Misfits.{misfit_some, unlike_some}
use Rattle.explain_typing.proofs.causes.refusal_by.Goals as goal

pub returns-then-is_some : goal.returns-then-is_some
returns-then-is_some c = λ C fs targets n i e k le.
    misfit_some C (decoded_as targets c.args.token) fs c.args.takes.now c.args.finds.now n _ e k le c.misfit-cause.ensures

pub returns-in-Select-default : goal.returns-in-Select-default
returns-in-Select-default c = λ C fs targets n i e k le.
    let s = ap (decoded_as targets) c.in-Select-default.is-0 in
    unlike_some C (decoded_as targets c.args.token) fs c.args.finds.now n _ s k c.unlike.ensures
