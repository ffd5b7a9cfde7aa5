use Rattle.memory.proofs.Memories.{is_typed}
use Rattle.memory.proofs.linear_memory.LinearMemory.typed.Goals as goal

pub returns-clause-typed : goal.returns-clause-typed
returns-clause-typed c = is_typed _ c.self.inside.bytes.items _ c.self.inside.length _ _ _ c.self.view_is c.self.invariant c.deref.result.now c.deref.ensures.value c.are_bytes.ensures
