use Rattle.std.proofs.Common.{arith}
use Rattle.std.specs.Fork.{ChangesAt}
use Rattle.pieces.proofs.SideBySide.{becomes_one}
use Rattle.pieces.proofs.beside.each_beside.Goals as goal

pub returns-then-s-eq1 : goal.returns-then-s-eq1
returns-then-s-eq1 g c =
    becomes_one (ChangesAt g.F.Fn c.args.f.now 0) c.args.s.now c.index-s-0.result _ (omega (arith, c.if-s-eq1.true)) c.at_one.ensures
