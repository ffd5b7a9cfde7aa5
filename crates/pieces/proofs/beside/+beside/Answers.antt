use Rattle.std.proofs.Common.{arith}
use Rattle.std.specs.Fork.{ChangesAt}
use Rattle.pieces.proofs.SideBySide.{becomes_cut}
use Rattle.pieces.proofs.beside.+beside.Goals as goal

pub all_beside-returns : goal.all_beside-returns
all_beside-returns g t c =
    let cut = c.split_at_mut-others in
    becomes_cut (ChangesAt g.F.Fn c.args.f.now 0) c.args.s.now _ _ _ c.index-last-0.result _ cut.ensures.value (omega (arith, cut.ensures.back_len)) c.last_beside.ensures.others c.last_beside.ensures.last
