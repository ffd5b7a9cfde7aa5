use Rattle.std.proofs.Common.{rules}
use Rattle.memory.proofs.Memories.{did_allocate}
use Rattle.memory.proofs.linear_memory.LinearMemory.allocate.Goals as goal

pub returns-clause-memory : goal.returns-clause-memory
returns-clause-memory c = did_allocate c.into_parts-bytes.result.0.items c.provide_buffer.new.bytes.items c.args.min c.args.most c.args.pages c.into_parts-bytes.ensures.clean.zero c.provide_buffer.ensures.same (search rules)
