use Rattle.std.proofs.Common.{◌≡◌, ◌-◌}
use Rattle.wsyntax.specs.Binary.Production.{times_at}
use Rattle.wsyntax.specs.Binary.Types.{func_type}
use Rattle.wdecode.proofs.Loop.{with_front}
use Rattle.wdecode.proofs.types.func_types_at.Given as goal

abbrev pub invariant-loop : goal.invariant-loop
invariant-loop l = with_front l.types (times_at func_type.read (l.count - l.counter) l.rest) ≡ times_at func_type.read l.count l.bytes
