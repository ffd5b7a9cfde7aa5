use Rattle.std.proofs.Common.{◌≡◌, ◌-◌, map}
use Rattle.wsyntax.specs.Binary.Production.{times_at}
use Rattle.wdecode.proofs.Loop.{with_front}
use Rattle.wdecode.proofs.values.times_into.Given as goal

abbrev pub invariant-loop : goal.invariant-loop
invariant-loop g l = with_front (map g.T.Item.shape l.items.items) (times_at g.T.Item.at (l.count - l.counter) l.rest) ≡ times_at g.T.Item.at l.count l.bytes
