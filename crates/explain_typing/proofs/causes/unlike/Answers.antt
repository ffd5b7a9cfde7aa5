use Rattle.std.proofs.Common.{◌≡◌, false, refl, rules}
use Rattle.wsyntax.specs.Types.{same_type}
use Rattle.explain_typing.proofs.Misfits.{second_at}
use Rattle.explain_typing.proofs.causes.unlike.Goals as goal

pub returns : goal.returns
returns c =
    let other : same_type c.in-Some.above c.in-Some-type_at.below ≡ false = search rules in
    λ C fs n e. (
      refl,
      second_at n fs _ 1 c.in-Some.above e c.in-Some.ensures,
      second_at n fs _ 2 c.in-Some-type_at.below e c.in-Some-type_at.ensures,
      other,
    )
