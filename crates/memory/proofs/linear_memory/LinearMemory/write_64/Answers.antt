use Rattle.std.proofs.Common.{arith}
use Rattle.memory.proofs.Memories.{did_write, store_buffered}
use Rattle.memory.proofs.linear_memory.LinearMemory.write_64.Goals as goal

pub invariant_of-self : goal.invariant_of-self
invariant_of-self c = store_buffered c.self.inside.bytes.items c.deref_mut-2.result.now c.put_64.new.bytes c.self.inside.marks.items c.deref_mut.result.now c.mark.new.marks c.self.inside.length c.self.inside.bytes.len c.self.inside.marks.len c.args.at 8 c.args.bits _ _ c.self.invariant c.self.inside.bytes.ok.0 c.self.inside.marks.ok.0 (omega arith) (omega arith) c.if-at-self.false c.deref_mut-2.ensures.value c.put_64.ensures c.deref_mut.ensures.value c.mark.ensures

pub returns : goal.returns
returns c = did_write _ c.self.inside.bytes.items c.deref_mut-2.result.now c.put_64.new.bytes c.self.inside.length c.self.inside.bytes.len c.args.at 8 c.args.bits _ _ c.self.view_is c.self.invariant.fits c.self.inside.bytes.ok.0 c.if-at-self.false c.deref_mut-2.ensures.value c.put_64.ensures
