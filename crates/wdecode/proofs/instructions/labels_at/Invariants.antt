use Rattle.std.proofs.Common.{◌≡◌, ◌-◌, ◌++◌, List, ℕ}
use Rattle.wsyntax.specs.Binary.Production.{times_at}
use Rattle.wsyntax.specs.Binary.Values.{u32}
use Rattle.wdecode.proofs.Loop.{with_front}
use Rattle.wdecode.proofs.instructions.labels_at.Given as goal

abbrev pub invariant-loop : goal.invariant-loop
invariant-loop l = (added : List ℕ) × (l.targets.items ≡ l.fn.targets.items ++ added) × (with_front added (times_at u32.read (l.count - l.counter) l.rest) ≡ times_at u32.read l.count l.bytes)
