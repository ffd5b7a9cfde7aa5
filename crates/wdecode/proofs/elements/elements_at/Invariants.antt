use Rattle.std.proofs.Common.{◌≡◌, ◌-◌, map}
use Rattle.wsyntax.specs.Modules.{element_shape}
use Rattle.wsyntax.specs.Binary.Production.{times_at}
use Rattle.wsyntax.specs.Binary.Sections.{element}
use Rattle.wdecode.proofs.Loop.{with_front}
use Rattle.wdecode.proofs.elements.elements_at.Given as goal

abbrev pub invariant-loop : goal.invariant-loop
invariant-loop l = with_front (map element_shape l.elements) (times_at element.read (l.count - l.counter) l.rest) ≡ times_at element.read l.count l.bytes
