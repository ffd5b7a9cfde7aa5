use Rattle.std.proofs.Common.{refl}
use Rattle.std.specs.Prelude.{codes}
use Rattle.c_api.proofs.build.gate_build.Goals as goal

pub returns : goal.returns
returns c = (codes "------------", refl, c.hand_text.ensures)
