use Rattle.std.proofs.Common.{◌≡◌, ◌-◌}
use Rattle.wsyntax.specs.Binary.Production.{times_at}
use Rattle.wsyntax.specs.Binary.Types.{val_type}
use Rattle.wdecode.specs.Gives.{rest_of}
use Rattle.explain_bytes.proofs.shell.type_items.val_types_in.Given as goal

abbrev pub invariant-loop : goal.invariant-loop
invariant-loop l = rest_of (times_at val_type.read (l.count - l.counter) l.rest) ≡ rest_of (times_at val_type.read l.count l.bytes)
