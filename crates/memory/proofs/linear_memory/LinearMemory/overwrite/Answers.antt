use Rattle.std.proofs.Common.{arith}
use Rattle.memory.proofs.Memories.{did_overwrite, segment_buffered}
use Rattle.memory.proofs.linear_memory.LinearMemory.overwrite.Goals as goal

pub invariant_of-self : goal.invariant_of-self
invariant_of-self c = segment_buffered c.self.inside.bytes.items c.deref_mut-2.result.now c.put.new.bytes c.args.bytes.now c.self.inside.marks.items c.deref_mut.result.now c.mark_all.new.marks c.self.inside.length c.self.inside.bytes.len c.self.inside.marks.len c.args.at _ _ _ _ c.self.view_is c.self.invariant c.self.inside.bytes.ok.0 c.self.inside.marks.ok.0 c.requires (omega arith) c.deref_mut-2.ensures.value c.put.ensures c.deref_mut.ensures.value c.mark_all.auto.marks c.mark_all.ensures.inside c.mark_all.ensures.kept c.mark_all.ensures.above

pub returns : goal.returns
returns c = did_overwrite _ c.self.inside.bytes.items c.deref_mut-2.result.now c.put.new.bytes c.args.bytes.now c.self.inside.length c.self.inside.bytes.len c.args.at _ _ c.self.view_is c.self.invariant.fits c.self.inside.bytes.ok.0 c.requires c.deref_mut-2.ensures.value c.put.ensures
