use Rattle.std.proofs.Common.{◌≡◌, ◌-◌}
use Rattle.wsyntax.specs.Binary.Production.{times_at}
use Rattle.wsyntax.specs.Binary.Values.{u32}
use Rattle.wdecode.specs.Gives.{rest_of}
use Rattle.explain_bytes.proofs.shell.items.indices_in.Given as goal

abbrev pub invariant-loop : goal.invariant-loop
invariant-loop l = rest_of (times_at u32.read (l.count - l.counter) l.rest) ≡ rest_of (times_at u32.read l.count l.bytes)
