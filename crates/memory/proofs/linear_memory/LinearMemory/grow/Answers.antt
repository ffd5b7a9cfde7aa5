use Rattle.std.proofs.Common.{rules}
use Rattle.memory.proofs.Memories.{did_grow}
use Rattle.memory.proofs.linear_memory.LinearMemory.grow.Goals as goal

pub returns-clause-grown : goal.returns-clause-grown
returns-clause-grown c = did_grow _ c.self.inside.bytes.items c.provide_buffer.new.bytes.items _ c.self.inside.length _ c.args.more _ _ c.self.view_is c.self.invariant 0 (search rules) (search rules) c.provide_buffer.ensures.same
