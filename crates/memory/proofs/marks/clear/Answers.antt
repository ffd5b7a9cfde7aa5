use Rattle.std.proofs.Common.{below_more, get_or-set_same, arith, ◌<◌, length}
use Rattle.memory.proofs.Blocks.{unset, cleared}
use Rattle.memory.proofs.marks.clear.Goals as goal
use Rattle.memory.proofs.marks.clear.Goals.{then-marks-block, else-marks-block}

pub loop-block-preserved : goal.loop-block-preserved
loop-block-preserved c = elim c.if-marks-block.branch [
  | then-marks-block w ↦
      let within : c.loop-block.block < length c.loop-block.marks = omega (arith, c.div_ceil-block-end.ensures) in
      rw (w.bytes-is, w.marks-is) (record {
        zero = cleared c.loop-block.bytes w.zero.new.bytes c.loop-block.marks c.loop-block.block w.min.result w.min.ensures w.zero.ensures.inside w.zero.ensures.below w.zero.ensures.above c.loop-block.invariant.zero;
        below = below_more _ _ (λ b h. unset c.loop-block.marks c.loop-block.block b within (c.loop-block.invariant.below b h)) (get_or-set_same c.loop-block.marks c.loop-block.block _ _ within);
        unused = λ b h. unset c.loop-block.marks c.loop-block.block b within (c.loop-block.invariant.unused b h);
      })
  | else-marks-block w ↦
      rw (w.bytes-is, w.marks-is) (record {
        zero = c.loop-block.invariant.zero;
        below = below_more _ _ c.loop-block.invariant.below w.if-marks-block.false;
        unused = c.loop-block.invariant.unused;
      })
]
