use Rattle.memory.proofs.Memories.{did_read}
use Rattle.memory.proofs.linear_memory.LinearMemory.read_32.Goals as goal

pub returns-then-at-self : goal.returns-then-at-self
returns-then-at-self c = did_read _ c.self.inside.bytes.items c.deref.result.now c.self.inside.length _ c.args.at 4 _ _ _ c.self.view_is c.self.invariant.fits c.if-at-self.true c.deref.ensures.value c.number_32.ensures
