use Rattle.std.proofs.Common.{◌<◌, ◌+◌, length, arith, add-one}
use Rattle.wstore.proofs.ByteLists.{copied_more, byte_read}
use Rattle.wstore.proofs.bytes.copy_out.Goals as goal

pub loop-position-preserved : goal.loop-position-preserved
loop-position-preserved c =
    let bytes = c.args.memory.now.memory.bytes in
    let at = c.args.at in
    let below : c.loop-position.position < length c.args.out.now = omega arith in
    let byte = byte_read bytes (at + c.loop-position.position) c.in-Some.byte (omega arith) c.in-Some.ensures in
    let more = copied_more at c.loop-position.position c.in-Some.byte bytes c.args.out.now c.requires below byte in
    rw add-one (cc more)
